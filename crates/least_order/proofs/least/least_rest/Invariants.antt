use Rattle.least_order.proofs.BestSteps.{IsFilled}
use Rattle.least_order.proofs.least.least_rest.Given as goal

abbrev pub invariant-loop-set : goal.invariant-loop-set
invariant-loop-set l = IsFilled l.items l.rest.items l.set
