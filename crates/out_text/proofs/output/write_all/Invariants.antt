use Rattle.std.proofs.Common.{◌≤◌, length}
use Rattle.out_text.specs.Writing.{IsWrittenUpTo}
use Rattle.out_text.proofs.output.write_all.Given as goal

abbrev pub invariant-writes : goal.invariant-writes
invariant-writes g l = record {
  written : IsWrittenUpTo (g.W.Sink.written l.fn.out) (g.W.Sink.written l.out) l.text l.rest;
  faults : g.W.Sink.faults l.fn.out ≤ g.W.Sink.faults l.out;
}

abbrev pub decreases-writes : goal.decreases-writes
decreases-writes g l = length l.rest
