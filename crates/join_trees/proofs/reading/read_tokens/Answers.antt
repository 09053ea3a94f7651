use Rattle.std.proofs.Common.{arith, ◌∙◌}
use Rattle.join_trees.proofs.ReadingLaws.{keeps_blank, keeps_end, keeps_step, keeps_stuck, step_fits}
use Rattle.join_trees.proofs.reading.read_tokens.Goals as goal

pub loop-first-preserved-then-is_space : goal.loop-first-preserved-then-is_space
loop-first-preserved-then-is_space c = keeps_blank _ _ _ _ _ c.in-Some.ensures.cases.0 c.if-is_space.ensures c.loop-first.invariant

pub returns-in_default-2 : goal.returns-in_default-2
returns-in_default-2 c = keeps_stuck _ _ _ _ _ _ c.in-Some.ensures.cases.0 c.if-is_space.ensures c.in_ok-next.ensures c.in_default-2.is c.loop-first.invariant

pub split_at-requires : goal.split_at-requires
split_at-requires c = (step_fits _ _ _ _ _ c.in_ok-next.ensures c.in-Some-2.is).1

pub loop-first-smaller : goal.loop-first-smaller
loop-first-smaller c =
    let within = step_fits _ _ _ _ _ c.in_ok-next.ensures c.in-Some-2.is in
    omega (arith, within, c.split_at.ensures.back_len)

pub loop-first-preserved : goal.loop-first-preserved
loop-first-preserved c = keeps_step _ _ _ _ _ _ _ _ _ c.in-Some.ensures.cases.0 c.if-is_space.ensures c.in_ok-next.ensures c.in-Some-2.is c.split_at.ensures.back c.loop-first.invariant

pub returns : goal.returns
returns c = c.finished_tree.ensures ∙ keeps_end _ _ _ c.in_default.ensures.cases c.loop-first.invariant
