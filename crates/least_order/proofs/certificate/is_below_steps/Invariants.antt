use Rattle.std.proofs.Common.{ℕ, ◌<◌}
use Rattle.least_order.specs.Certificates.{IsBelowStepsFrom}
use Rattle.least_order.proofs.certificate.is_below_steps.Given as goal

abbrev pub invariant-loop-set : goal.invariant-loop-set
invariant-loop-set l = (set : ℕ) → set < l.set → IsBelowStepsFrom l.items l.rest set
