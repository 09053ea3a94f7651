use Rattle.std.proofs.Common.{◌∙◌}
use Rattle.plan_checker.specs.Members.{group_name}
use Rattle.plan_checker.proofs.CountLaws.{made_of_more}
use Rattle.plan_checker.proofs.members.push_groups.Goals as goal

pub loop-index-preserved : goal.loop-index-preserved
loop-index-preserved c = c.in_ok-push.ensures.ok ∙ made_of_more (group_name c.args.atom) c.args.groups.now c.loop-index.groups c.loop-index.index c.loop-index.invariant
