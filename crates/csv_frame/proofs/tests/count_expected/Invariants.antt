use Rattle.std.proofs.Common.{◌≡◌, ◌+◌, length}
use Rattle.csv_frame.proofs.tests.count_expected.Given as goal

abbrev pub invariant-frames : goal.invariant-frames
invariant-frames l = record {
  bytes : l.framer.at + length l.framer.rest ≡ l.fn.framer.at + length l.fn.framer.rest;
  ended : l.framer.ended ≡ l.fn.framer.ended;
}
