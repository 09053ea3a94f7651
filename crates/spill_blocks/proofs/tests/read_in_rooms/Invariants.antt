use Rattle.std.proofs.Common.{◌≡◌}
use Rattle.spill_blocks.proofs.tests.read_in_rooms.Given as goal

abbrev pub invariant-loop : goal.invariant-loop
invariant-loop g l = l.file.shapes ≡ l.initial.file.shapes
