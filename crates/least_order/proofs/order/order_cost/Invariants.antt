use Rattle.std.proofs.Common.{◌≡◌, ◌≤◌, ◌<◌, ◌+◌, ◌*◌, ◌^◌, length, drop}
use Rattle.least_order.proofs.Costs.{cost_from}
use Rattle.least_order.proofs.Paths.{completes}
use Rattle.least_order.proofs.order.order_cost.Given as goal

abbrev pub invariant-loop-position : goal.invariant-loop-position
invariant-loop-position l = record {
  path : completes (length l.items) 0 l.order ≡ completes (length l.items) l.placed (drop l.position-index l.order);
  cost : l.cost + cost_from l.items l.placed (drop l.position-index l.order) ≡ cost_from l.items 0 l.order;
  below : l.placed < 2 ^ length l.items;
  small : l.cost ≤ l.position-index * 2 ^ 60;
}
