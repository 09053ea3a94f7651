use Rattle.std.proofs.Common.{◌<◌, ◌∙◌, length, sym, arith}
use Rattle.least_order.specs.declared.item.Item.{Item}
use Rattle.least_order.proofs.MergeSteps.{merges_shared, merges_apart}
use Rattle.least_order.proofs.size.merge.Goals as goal
use Rattle.least_order.proofs.size.merge.Goals.{then-shares_variable, else-shares_variable}

pub loop-index-preserved : goal.loop-index-preserved
loop-index-preserved c =
    let none : Item = record { count = 0; vars = 0 } in
    let within : c.loop-index.index < length c.loop-index.parts = omega arith in
    elim c.if-shares_variable.branch [
      | then-shares_variable w ↦ rw (w.parts-is, w.merged-is, w.join-merged.ensures, w.kept-is)
          (merges_shared c.args.item c.args.parts.now c.loop-index.parts c.loop-index.merged c.loop-index.kept c.loop-index.index none
          c.loop-index.invariant within (sym c.shares_variable.ensures ∙ w.if-shares_variable.true))
      | else-shares_variable w ↦ rw (w.parts-is, w.merged-is, w.kept-is)
          (merges_apart c.args.item c.args.parts.now c.loop-index.parts c.loop-index.merged c.loop-index.kept c.loop-index.index none
          c.loop-index.invariant within (sym c.shares_variable.ensures ∙ w.if-shares_variable.false))
    ]
