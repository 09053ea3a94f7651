use Rattle.std.proofs.Common.{Some, ap}
use Rattle.collect_core.specs.Members.{Member}
use Rattle.collect_core.proofs.member.Member.give.Goals as goal

pub returns-clause-ok : goal.returns-clause-ok
returns-clause-ok g c =
    (c.in_ok-new.field-0, c.in_ok-new.ensures, ap (λ (m : Member g.row.S.Denot). record m { reader = Some c.in_ok-new.field-0 }) c.self.view_is)
