use Rattle.std.proofs.Common.{◌≡◌, drop}
use Rattle.answer_theory.specs.Bindings.{value_of}
use Rattle.query_model.specs.Walks.{binding_of}
use Rattle.query_model.proofs.entries.FirstEntriesValuation.value_of.Given as goal

abbrev pub invariant-loop-entry : goal.invariant-loop-entry
invariant-loop-entry l = value_of (binding_of (drop l.entry-index l.self.entries.now)) l.variable ≡ value_of (binding_of l.self.entries.now) l.variable
