use Rattle.std.proofs.Common.{◌∙◌}
use Rattle.med_top.proofs.TakingLaws.{waited}
use Rattle.med_top.proofs.taking.take_rows.Goals as goal

pub pulls-smaller : goal.pulls-smaller
pulls-smaller g c =
    let held = c.in_ok-fault.ensures in
    let answer = c.in-NotYet.ensures.answer in
    let lower = rw (held.source) at c.in-NotYet.ensures.source.left in
    waited (g.S.Source.left c.pulls.wrapper.source) _ c.pulls.idle c.pulls.wrapper.ahead.framed.ended _ (λ told. c.in-NotYet.ensures.last (held.ended ∙ told)) answer.1 lower c.pulls.invariant.below
