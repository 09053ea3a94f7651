use Rattle.std.proofs.Common.{◌≡◌, ◌+◌, ◌≤◌, ℕ, Bool, true, List, Option, ◌++◌, length, take}
use Rattle.csv_frame.specs.Frames.{frames}
use Rattle.csv_wrap.specs.Readings.{rows_then, read_frames}
use Rattle.csv_wrap.proofs.run_rows.read_run.Given as goal

-- the rows so far stand before those of the frames that are left
abbrev pub invariant-records : goal.invariant-records
invariant-records l = record {
  same : (later : List (Option (List ℕ))) (ended : Bool) → rows_then l.fn.rows.items (read_frames l.fn.number l.columns (frames l.run true ++ later) ended) ≡ rows_then l.rows.items (read_frames l.number l.columns (l.reader ++ later) ended);
  front : take (length l.fn.rows.items) l.rows.items ≡ l.fn.rows.items;
  counted : length l.rows.items + l.fn.number ≤ length l.fn.rows.items + l.number;
  number : l.number + length l.reader ≤ l.fn.number + length l.run;
}

abbrev pub decreases-records : goal.decreases-records
decreases-records l = length l.reader
