use Rattle.std.proofs.Common.{◌∙◌}
use Rattle.plan_checker.specs.Members.{member_name}
use Rattle.plan_checker.proofs.CountLaws.{made_of_more}
use Rattle.plan_checker.proofs.members.push_members.Goals as goal

pub loop-index-preserved : goal.loop-index-preserved
loop-index-preserved c = c.in_ok-push.ensures.ok ∙ made_of_more (member_name c.args.group) c.args.members.now c.loop-index.members c.loop-index.index c.loop-index.invariant
