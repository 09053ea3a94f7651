use Rattle.std.proofs.Common.{sym, ap, ◌∙◌}
use Rattle.collect_core.specs.Members.{member_now, member_now_with}
use Rattle.collect_core.proofs.member.Member.now.Goals as goal

pub returns-in-Some : goal.returns-in-Some
returns-in-Some g c = c.now.ensures c.self.inside.opening_failed ∙ ap (member_now_with c.self.inside.opening_failed) (sym c.in-Some.is) ∙ ap member_now c.self.view_is
