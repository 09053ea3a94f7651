use Rattle.std.proofs.Common.{◌∙◌, ap, sym}
use Rattle.least_order.specs.Merging.{joined_vars}
use Rattle.least_order.proofs.Members.{vars_more, members_without}
use Rattle.least_order.proofs.greedy.vars_of.Goals as goal

pub loop-position-preserved-then-contains : goal.loop-position-preserved-then-contains
loop-position-preserved-then-contains c =
    vars_more c.args.items.now c.args.set c.loop-position.position c.loop-position.vars (record { count = 0; vars = 0 })
    c.loop-position-test.true c.loop-position.auto.position (sym c.contains.ensures ∙ c.if-contains.true) c.loop-position.invariant

pub loop-position-preserved : goal.loop-position-preserved
loop-position-preserved c =
    c.loop-position.invariant
    ∙ sym (ap joined_vars (members_without c.args.items.now c.args.set c.loop-position.position (record { count = 0; vars = 0 })
    c.loop-position-test.true c.loop-position.auto.position (sym c.contains.ensures ∙ c.if-contains.false)))
