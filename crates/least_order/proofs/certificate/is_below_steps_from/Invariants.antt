use Rattle.std.proofs.Common.{◌≡◌, ℕ, ◌<◌, ◌≤◌, false, get_or}
use Rattle.least_order.specs.Certificates.{rest_through}
use Rattle.least_order.specs.Sets.{is_in}
use Rattle.least_order.proofs.certificate.is_below_steps_from.Given as goal

abbrev pub invariant-loop-position : goal.invariant-loop-position
invariant-loop-position l =
    (position : ℕ) → position < l.position → is_in l.set position ≡ false
    → get_or l.rest l.set 0 ≤ rest_through l.items l.rest l.set position
