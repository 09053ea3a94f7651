use Rattle.std.proofs.Common.{length, arith, ap}
use Rattle.rule_reader.proofs.ReadingLaws.{keeps_blank, keeps_step, keeps_stuck, step_fits}
use Rattle.rule_reader.proofs.reading.read_tokens.Goals as goal

pub loop-first-preserved-then-is_space : goal.loop-first-preserved-then-is_space
loop-first-preserved-then-is_space c = record {
  same = keeps_blank _ _ _ _ _ _ _ c.in-Some.ensures.cases.0 c.if-is_space.ensures c.loop-first.invariant.same;
  offset = omega (arith, c.loop-first.invariant.offset, ap length c.in-Some.ensures.cases.0);
}

pub split_at-requires : goal.split_at-requires
split_at-requires c = (step_fits _ _ _ _ _ c.in_ok-why.ensures c.in-Ok.is).1

pub loop-first-smaller : goal.loop-first-smaller
loop-first-smaller c =
    let within = step_fits _ _ _ _ _ c.in_ok-why.ensures c.in-Ok.is in
    omega (arith, within, c.split_at.ensures.back_len)

pub loop-first-preserved : goal.loop-first-preserved
loop-first-preserved c = record {
  same = keeps_step _ _ _ _ _ _ _ _ _ _ _ c.in-Some.ensures.cases.0 c.if-is_space.ensures c.in_ok-why.ensures c.in-Ok.is c.split_at.ensures.back c.loop-first.invariant.same;
  offset = omega (arith, c.split_at.ensures.back_len, c.loop-first.invariant.offset);
}

pub returns-in-Err : goal.returns-in-Err
returns-in-Err c = keeps_stuck _ _ _ _ _ _ _ _ _ c.in-Some.ensures.cases.0 c.if-is_space.ensures c.in_ok-why.ensures c.in-Err.is c.loop-first.invariant.same
