use Rattle.tuple_core.specs.Values.{FitsRow}
use Rattle.spill_blocks.proofs.tests.row_of.Given as goal

abbrev pub invariant-loop-field : goal.invariant-loop-field
invariant-loop-field l = FitsRow l.values.items
