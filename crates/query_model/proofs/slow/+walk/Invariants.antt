use Rattle.std.proofs.Common.{◌≡◌, ◌∷◌, ◌++◌, length}
use Rattle.query_core.specs.Answers.{items, items_of}
use Rattle.query_model.specs.Walks.{binding_of, heads_from}
use Rattle.query_model.proofs.slow.+walk.Given as goal

abbrev pub decreases-walk : goal.decreases-walk
decreases-walk l = length l.atoms.now

abbrev pub invariant-loop-row : goal.invariant-loop-row
invariant-loop-row l = record {
  found : l.found ++ heads_from l.query (binding_of l.fn.entries.items) (items_of l.atom l.row-iterator ∷ items l.more_atoms l.more_arrivals)
      ≡ l.fn.found ++ heads_from l.query (binding_of l.fn.entries.items) (items l.fn.atoms l.fn.arrivals);
  entries : binding_of l.entries.items ≡ binding_of l.fn.entries.items;
}
