use Rattle.std.proofs.Common.{ℕ, List, ◌++◌, ◌-◌, ◌^◌, ◌<◌, length}
use Rattle.least_order.specs.Search.{LeadsBest}
use Rattle.least_order.proofs.least.order_along.Given as goal

-- whatever leads on from here leads from the start behind what was taken
abbrev pub invariant-loop-next : goal.invariant-loop-next
invariant-loop-next l = record {
  leads : (order : List ℕ) → LeadsBest l.items l.rest l.placed order → LeadsBest l.items l.rest 0 (l.order.items ++ order);
  below : l.placed < 2 ^ length l.items;
}

abbrev pub decreases-loop-next : goal.decreases-loop-next
decreases-loop-next l = 2 ^ length l.items - l.placed
