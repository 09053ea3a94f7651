use Rattle.least_order.specs.Search.{IsGreedySoFar}
use Rattle.least_order.proofs.greedy.greedy_next.Given as goal

abbrev pub invariant-loop-position : goal.invariant-loop-position
invariant-loop-position l = IsGreedySoFar l.items l.placed l.position l.best
