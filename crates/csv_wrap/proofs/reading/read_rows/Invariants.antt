use Rattle.std.proofs.Common.{◌≡◌, ◌+◌, ◌≤◌, length}
use Rattle.csv_frame.specs.Frames.{frames}
use Rattle.csv_wrap.specs.Readings.{rows_then, read_frames, source_reading}
use Rattle.csv_wrap.proofs.reading.read_rows.Given as goal

-- the rows so far stand before those of the frames that are left
abbrev pub invariant-loop-frame : goal.invariant-loop-frame
invariant-loop-frame l = record {
  same : rows_then l.rows.items (read_frames l.number l.columns (frames l.rest l.ended) l.ended) ≡ source_reading l.columns l.bytes l.ended;
  fits : l.number + length l.rest ≤ length l.bytes;
}

abbrev pub decreases-loop-frame : goal.decreases-loop-frame
decreases-loop-frame l = length l.rest
