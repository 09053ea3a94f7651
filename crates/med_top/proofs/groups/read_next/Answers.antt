use Rattle.std.proofs.Common.{sym, ◌∙◌}
use Rattle.med_top.proofs.MemberLaws.{left_alone}
use Rattle.med_top.proofs.groups.read_next.Goals as goal

pub returns-in-Starved-clause-advances : goal.returns-in-Starved-clause-advances
returns-in-Starved-clause-advances g c =
    left_alone _ _ _ _ _ _ _ _ _ _ _ c.requires.name (λ settled. let both = sym c.in-Starved.is ∙ settled in absurd (cc))
    (rw (c.in_ok-location.ensures, c.as_str.ensures.value) at c.leave_next.ensures.members) c.leave_next.ensures.rows c.leave_next.ensures.end

pub returns-in-Stalled-clause-advances : goal.returns-in-Stalled-clause-advances
returns-in-Stalled-clause-advances g c =
    left_alone _ _ _ _ _ _ _ _ _ _ _ c.requires.name (λ settled. let both = sym c.in-Stalled.is ∙ settled in absurd (cc))
    (rw (c.in_ok-location.ensures, c.as_str.ensures.value) at c.leave_next-in-Stalled.ensures.members) c.leave_next-in-Stalled.ensures.rows c.leave_next-in-Stalled.ensures.end
