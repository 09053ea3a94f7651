use Rattle.std.proofs.Common.{◌∷◌, [], arith, ap, ◌∙◌}
use Rattle.csv_wrap.specs.Sound.{asked_locations, given_marks}
use Rattle.med_top.proofs.MemberLaws.{members_on, members_all, stays_on, asked_more, given_more, appended}
use Rattle.med_top.proofs.groups.read_groups.Goals as goal

pub loop-index-preserved : goal.loop-index-preserved
loop-index-preserved g c =
    let a = c.in_ok-read_next.ensures.advances in
    let so_far = c.loop-index.invariant in record {
      members = members_on _ _ _ _ _ c.loop-index.index _ _ a.member _ _ (rw (c.as_slice-location-items.ensures) at c.loop-index-test.true) (rw (c.as_slice-location-items.ensures) at c.location-item.is) c.name_of.ensures (rw (so_far.told) at a.is_member) a.grown so_far.members;
      ends = λ settled. a.ends _ so_far.faults (so_far.ends settled);
      stays = λ stopped. stays_on _ _ _ a.grown (so_far.stays stopped) stopped a.stays;
      asked = appended _ _ _ _ _ _ so_far.asked a.asked (ap asked_locations a.grown ∙ asked_more c.loop-index.read.members (a.member ∷ []));
      given = appended _ _ _ _ _ _ so_far.given a.given (ap (given_marks g.O.S.Source) a.grown ∙ given_more g.O.S.Source c.loop-index.read.members (a.member ∷ []));
      faults = omega (arith, so_far.faults, c.in_ok-read_next.ensures.faults);
      told = c.in_ok-read_next.ensures.told ∙ so_far.told;
    }

pub returns-clause-members : goal.returns-clause-members
returns-clause-members g c = members_all _ _ _ _ _ c.loop-index.index _ (let over = rw (c.as_slice-location-items.ensures) at c.loop-index-test.false in omega (arith, over)) c.loop-index.invariant.members
