use Rattle.std.proofs.Common.{arith, subst, ◌∙◌}
use Rattle.std.proofs.lemmas.Grind.{common_steps}
use Rattle.csv_wrap.specs.Wrapped.{SameSource}
use Rattle.med_top.proofs.MemberLaws.{member_sound}
use Rattle.med_top.proofs.member.read_source.Goals as goal

pub returns-in-Failed-clause-member : goal.returns-in-Failed-clause-member
returns-in-Failed-clause-member g c =
    let ended = c.in_ok-end.ensures in
    let wrapped = c.in_ok-wrapper.ensures in
    let is = rw (c.into_source-source.ensures) at c.member_end-in-Failed.ensures in
    let same = subst (λ s. SameSource g.S.Source s c.take_rows.new.wrapper.source) wrapped.source ended.source in
    let sound = rw (c.in-Failed.is) at ended.ends in
    member_sound g.S.Source _ c.args.source _ _ _ c.take_rows.new.wrapper _ _ _ _ _ _ _ is c.requires.name c.requires.location same (ended.columns ∙ wrapped.columns) ended.taken (grind (arith, common_steps)) sound

pub returns-in-Stalled-clause-member : goal.returns-in-Stalled-clause-member
returns-in-Stalled-clause-member g c =
    let ended = c.in_ok-end.ensures in
    let wrapped = c.in_ok-wrapper.ensures in
    let is = rw (c.into_source-source.ensures) at c.member_end-in-Stalled.ensures in
    let same = subst (λ s. SameSource g.S.Source s c.take_rows.new.wrapper.source) wrapped.source ended.source in
    let sound = rw (c.in-Stalled.is) at ended.ends in
    member_sound g.S.Source _ c.args.source _ _ _ c.take_rows.new.wrapper _ _ _ _ _ _ _ is c.requires.name c.requires.location same (ended.columns ∙ wrapped.columns) ended.taken (grind (arith, common_steps)) sound.0
