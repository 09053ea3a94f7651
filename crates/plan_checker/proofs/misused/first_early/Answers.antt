use Rattle.std.proofs.Common.{arith, sym, ◌∙◌}
use Rattle.plan_checker.proofs.LeastLaws.{first_early}
use Rattle.plan_checker.proofs.misused.first_early.Goals as goal

pub returns-then-branch : goal.returns-then-branch
returns-then-branch c =
    first_early c.args.numbers.now c.args.fragments.now c.loop-index.index c.index-fragments-index.result (omega arith) c.index-fragments-index.is c.loop-index.invariant
    (sym c.in_ok-is_early.ensures ∙ c.if-branch.true)
