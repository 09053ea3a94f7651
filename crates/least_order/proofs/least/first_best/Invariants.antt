use Rattle.least_order.specs.Search.{IsBestSoFar}
use Rattle.least_order.proofs.least.first_best.Given as goal

abbrev pub invariant-loop-position : goal.invariant-loop-position
invariant-loop-position l = IsBestSoFar l.items l.rest l.set l.position l.best
