use Rattle.std.proofs.Common.{◌≡◌, drop, map}
use Rattle.std.specs.Prelude.{nat_le}
use Rattle.text_reading.specs.Order.{least, lesser}
use Rattle.query_reader.specs.Checks.{miscounted_offsets}
use Rattle.query_reader.proofs.checks.miscounted_offset.Given as goal

-- the lesser of the least so far and that of those that are left is the least of all
abbrev pub invariant-loop-atom : goal.invariant-loop-atom
invariant-loop-atom l = lesser nat_le l.least (least nat_le (miscounted_offsets l.directory (map (λ x. x.now) (drop l.atom-index l.atoms)))) ≡ least nat_le (miscounted_offsets l.directory (map (λ x. x.now) l.atoms))
