use Rattle.std.proofs.Common.{length}
use Rattle.csv_wrap.specs.Ahead.{KeepsFuture}
use Rattle.csv_wrap.proofs.ahead.ReadAhead.fill.Given as goal

abbrev pub invariant-frames : goal.invariant-frames
invariant-frames l = KeepsFuture l.fn.self l.self

abbrev pub decreases-frames : goal.decreases-frames
decreases-frames l = length l.self.framed.rest
