use Rattle.spill_blocks.specs.Places.{ReadsFrom, left_to_read}
use Rattle.spill_blocks.specs.Windows.{KeepsFile}
use Rattle.spill_blocks.proofs.seeking.read_on.Given as goal

abbrev pub invariant-loop-place : goal.invariant-loop-place
invariant-loop-place g l = record {
  keeps : KeepsFile l.initial.file l.file;
  reads : ReadsFrom l.wanted l.file l.initial.place l.initial.entries l.place l.entries;
}

abbrev pub decreases-loop-place : goal.decreases-loop-place
decreases-loop-place g l = left_to_read l.wanted l.file l.place
