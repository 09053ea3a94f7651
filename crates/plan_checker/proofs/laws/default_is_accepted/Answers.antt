use Rattle.plan_checker.proofs.DefaultLaws.{default_accepted}
use Rattle.plan_checker.proofs.laws.default_is_accepted.Goals as goal

pub returns : goal.returns
returns c = default_accepted
