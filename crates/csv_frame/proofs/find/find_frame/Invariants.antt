use Rattle.std.proofs.Common.{◌≤◌, ◌-◌, length, []}
use Rattle.csv_frame.specs.Holding.{GivesFrames, IsCursor, KeepsLong, held_of}
use Rattle.csv_frame.proofs.find.find_frame.Given as goal

-- nothing but skipped frames lies between
abbrev pub invariant-cuts : goal.invariant-cuts
invariant-cuts l = record {
  cursor : IsCursor l.bytes l.cursor;
  forward : l.fn.cursor.start ≤ l.cursor.start;
  gives : GivesFrames (held_of l.bytes l.fn.cursor.start l.before l.ended) [] (held_of l.bytes l.cursor.start l.before l.ended);
  long : KeepsLong (held_of l.bytes l.fn.cursor.start l.before l.ended) (held_of l.bytes l.cursor.start l.before l.ended);
}

abbrev pub decreases-cuts : goal.decreases-cuts
decreases-cuts l = length l.bytes - l.cursor.start
