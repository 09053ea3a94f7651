use Rattle.std.proofs.Common.{◌≡◌, drop}
use Rattle.text_reading.specs.Order.{least, lesser}
use Rattle.text_reading.proofs.checks.least.Given as goal

-- the least so far and that of those that are left
abbrev pub invariant-loop-one : goal.invariant-loop-one
invariant-loop-one g l = lesser g.P.Ordered.up_to l.so_far (least g.P.Ordered.up_to (drop l.one-index l.all)) ≡ least g.P.Ordered.up_to l.all
