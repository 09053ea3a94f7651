use Rattle.std.proofs.Common.{◌≡◌, ◌≤◌, ◌-◌, length, drop}
use Rattle.csv_frame.specs.Frames.{without_marks}
use Rattle.csv_frame.proofs.marks.marks_end.Given as goal

abbrev pub invariant-marks : goal.invariant-marks
invariant-marks l = record {
  within : l.end ≤ length l.frame;
  same : without_marks (drop l.end l.frame) ≡ without_marks l.frame;
}

abbrev pub decreases-marks : goal.decreases-marks
decreases-marks l = length l.frame - l.end
