use Rattle.std.proofs.Common.{ℕ, List, ◌++◌, ◌-◌, ◌^◌, ◌<◌, length}
use Rattle.least_order.specs.Search.{LeadsGreedy}
use Rattle.least_order.proofs.greedy.greedy_order.Given as goal

-- whatever leads on from here leads from the start behind what was taken
abbrev pub invariant-loop-position : goal.invariant-loop-position
invariant-loop-position l = record {
  leads : (order : List ℕ) → LeadsGreedy l.items l.placed order → LeadsGreedy l.items 0 (l.order ++ order);
  below : l.placed < 2 ^ length l.items;
}

abbrev pub decreases-loop-position : goal.decreases-loop-position
decreases-loop-position l = 2 ^ length l.items - l.placed
