use Rattle.std.proofs.Common.{length, arith, ap}
use Rattle.query_syntax.proofs.ReadingLaws.{keeps_blank, keeps_end, keeps_step, keeps_stuck, step_fits}
use Rattle.query_syntax.proofs.reading.read_tokens.Goals as goal

pub loop-first-preserved-then-is_blank : goal.loop-first-preserved-then-is_blank
loop-first-preserved-then-is_blank c = record {
  same = keeps_blank _ _ _ _ _ _ _ c.in-Some.ensures.cases.0 c.if-is_blank.ensures c.loop-first.invariant.same;
  offset = omega (arith, c.loop-first.invariant.offset, ap length c.in-Some.ensures.cases.0);
}

pub returns-in_default-2 : goal.returns-in_default-2
returns-in_default-2 c = keeps_stuck _ _ _ _ _ _ _ _ c.in-Some.ensures.cases.0 c.if-is_blank.ensures c.in_ok-next.ensures c.in_default-2.is c.loop-first.invariant.same

pub split_at-requires : goal.split_at-requires
split_at-requires c = (step_fits _ _ _ _ _ _ c.in_ok-next.ensures c.in-Some-2.is).1

pub loop-first-smaller : goal.loop-first-smaller
loop-first-smaller c =
    let within = step_fits _ _ _ _ _ _ c.in_ok-next.ensures c.in-Some-2.is in
    omega (arith, within, c.split_at.ensures.back_len)

pub loop-first-preserved : goal.loop-first-preserved
loop-first-preserved c = record {
  same = keeps_step _ _ _ _ _ _ _ _ _ _ _ c.in-Some.ensures.cases.0 c.if-is_blank.ensures c.in_ok-next.ensures c.in-Some-2.is c.split_at.ensures.back c.loop-first.invariant.same;
  offset = omega (arith, c.split_at.ensures.back_len, c.loop-first.invariant.offset);
}

pub returns-in-Some-finished_query : goal.returns-in-Some-finished_query
returns-in-Some-finished_query c = keeps_end _ _ _ _ _ _ c.in_default.ensures.cases c.loop-first.invariant.offset c.in-Some-finished_query.ensures c.loop-first.invariant.same

pub returns-in-None : goal.returns-in-None
returns-in-None c = keeps_end _ _ _ _ _ _ c.in_default.ensures.cases c.loop-first.invariant.offset c.in-None.ensures c.loop-first.invariant.same
