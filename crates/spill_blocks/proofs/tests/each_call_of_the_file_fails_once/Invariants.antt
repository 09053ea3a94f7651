use Rattle.std.proofs.Common.{◌≡◌}
use Rattle.spill_blocks.proofs.tests.each_call_of_the_file_fails_once.Given as goal

abbrev pub invariant-loop-answer : goal.invariant-loop-answer
invariant-loop-answer g l = (l.file.shapes ≡ l.initial.file.shapes) × (l.file.form ≡ l.initial.file.form)
