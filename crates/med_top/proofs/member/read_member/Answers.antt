use Rattle.med_top.specs.Members.{EndsMember}
use Rattle.med_top.proofs.MemberLaws.{at_counts}
use Rattle.med_top.proofs.member.read_member.Goals as goal

pub returns-in-Ok-clause-ends : goal.returns-in-Ok-clause-ends
returns-in-Ok-clause-ends g c = at_counts c.read_source.result (λ ran old new. EndsMember g.O.S.Source c.args.columns.now old new c.args.rows.now c.read_source.new.rows ran.member ran.end) _ _ c.read_source.ensures.ends
