use Rattle.std.proofs.Common.{drop}
use Rattle.query_model.specs.Walks.{binding_of}
use Rattle.query_model.proofs.Binding.{IsBoundSoFar}
use Rattle.query_model.proofs.entries.bind_row.Given as goal

abbrev pub invariant-loop-term : goal.invariant-loop-term
invariant-loop-term l = IsBoundSoFar (binding_of l.fn.entries.items) l.terms l.fn.row (binding_of l.entries.items) (drop l.term-index l.terms) l.left
