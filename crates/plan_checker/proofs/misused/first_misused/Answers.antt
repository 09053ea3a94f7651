use Rattle.std.proofs.Common.{arith, ◌∙◌}
use Rattle.plan_checker.proofs.LeastLaws.{first_misused}
use Rattle.plan_checker.proofs.misused.first_misused.Goals as goal
use Rattle.plan_checker.proofs.misused.first_misused.Goals.{then-index-numbers, else-index-numbers}

pub returns-then-count_of-wanted : goal.returns-then-count_of-wanted
returns-then-count_of-wanted c =
    first_misused c.args.used.now c.args.numbers.now c.loop-index.index c.if-index-numbers.wanted (omega arith) c.loop-index.invariant
    (λ e. elim c.if-index-numbers.branch [ then-index-numbers w ↦ w.wanted-is | else-index-numbers w ↦ absurd (w.if-index-numbers.false e) ])
    (λ h. elim c.if-index-numbers.branch [ then-index-numbers w ↦ absurd (h w.if-index-numbers.true) | else-index-numbers w ↦ w.wanted-is ])
    (λ e. c.if-count_of-wanted.true (c.count_of.ensures ∙ e))
