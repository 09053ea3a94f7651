use Rattle.std.proofs.Common.{◌≡◌, drop, map}
use Rattle.std.specs.Prelude.{nat_le}
use Rattle.text_reading.specs.Order.{least, lesser}
use Rattle.query_reader.specs.Checks.{comparison_offset}
use Rattle.text_reading.specs.Faults.{each_where}
use Rattle.query_reader.specs.Kinds.{is_clash}
use Rattle.query_reader.proofs.kinds.clash_offset.Given as goal

-- the lesser of the least so far and that of those that are left is the least of all
abbrev pub invariant-loop-comparison : goal.invariant-loop-comparison
invariant-loop-comparison l = lesser nat_le l.least (least nat_le (each_where (is_clash l.kinds) comparison_offset (map (λ x. x.now) (drop l.comparison-index l.comparisons)))) ≡ least nat_le (each_where (is_clash l.kinds) comparison_offset (map (λ x. x.now) l.comparisons))
