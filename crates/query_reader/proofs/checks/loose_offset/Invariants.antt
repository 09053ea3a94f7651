use Rattle.std.proofs.Common.{◌≡◌, drop}
use Rattle.std.specs.Prelude.{nat_le}
use Rattle.text_reading.specs.Order.{least, lesser}
use Rattle.query_reader.specs.Checks.{is_loose, occurrence_offset}
use Rattle.text_reading.specs.Faults.{each_where}
use Rattle.query_reader.proofs.checks.loose_offset.Given as goal

-- the lesser of the least so far and that of those that are left is the least of all
abbrev pub invariant-loop-occurrence : goal.invariant-loop-occurrence
invariant-loop-occurrence l = lesser nat_le l.least (least nat_le (each_where (is_loose l.bound) occurrence_offset (drop l.occurrence-index l.occurrences))) ≡ least nat_le (each_where (is_loose l.bound) occurrence_offset l.occurrences)
