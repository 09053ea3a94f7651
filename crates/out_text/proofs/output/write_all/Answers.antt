use Rattle.std.proofs.Common.{arith}
use Rattle.out_text.proofs.WritingLaws.{written_more}
use Rattle.out_text.proofs.output.write_all.Goals as goal

pub writes-preserved : goal.writes-preserved
writes-preserved g c = record {
  written = written_more _ _ _ _ _ _ c.in_ok-taken.taken c.writes.invariant.written c.in_ok-taken.ensures.written c.split_at.ensures.back;
  faults = omega (arith, c.writes.invariant.faults, c.write.ensures.faults);
}
