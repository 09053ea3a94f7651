use Rattle.plan_checker.proofs.CoverLaws.{tops_cover}
use Rattle.plan_checker.proofs.laws.tops_cover_fragments.Goals as goal

pub returns : goal.returns
returns c = tops_cover
