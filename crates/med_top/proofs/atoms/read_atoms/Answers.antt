use Rattle.std.proofs.Common.{arith, ap, ◌∙◌}
use Rattle.csv_wrap.specs.Sound.{asked_locations, given_marks}
use Rattle.med_top.proofs.AtomLaws.{ends_on, atom_members, all_members, ends_all}
use Rattle.med_top.proofs.MemberLaws.{asked_more, given_more, appended}
use Rattle.med_top.proofs.atoms.read_atoms.Goals as goal

pub loop-index-preserved : goal.loop-index-preserved
loop-index-preserved g c =
    let a = c.in_ok-read_next.ensures.advances in
    let so_far = c.loop-index.invariant in
    let are = rw (so_far.told) at a.are_members in
    record {
      members = rw (a.grown) (atom_members _ _ _ c.loop-index.index _ _ _ _ _ a.own c.loop-index.read.arrivals.items a.rows so_far.faults c.read_next.ensures.faults c.loop-index-test.true c.index-targets-index.is are so_far.members);
      ends = rw (a.grown, a.arrived) (ends_on _ _ _ c.loop-index.index _ _ _ _ _ a.own _ a.rows so_far.faults c.read_next.ensures.faults c.loop-index-test.true c.index-targets-index.is are _ _ a.ends a.stays so_far.ends);
      asked = appended _ _ _ _ _ _ so_far.asked a.asked (ap asked_locations a.grown ∙ asked_more c.loop-index.read.members a.own);
      given = appended _ _ _ _ _ _ so_far.given a.given (ap (given_marks g.O.S.Source) a.grown ∙ given_more g.O.S.Source c.loop-index.read.members a.own);
      faults = omega (arith, so_far.faults, c.read_next.ensures.faults);
      told = c.read_next.ensures.told ∙ so_far.told;
    }

pub returns-clause-members : goal.returns-clause-members
returns-clause-members g c = all_members _ _ _ c.loop-index.index _ c.loop-index-test.false c.loop-index.invariant.members

pub returns-clause-ends : goal.returns-clause-ends
returns-clause-ends g c = ends_all _ _ _ c.loop-index.index _ _ _ _ _ c.loop-index-test.false c.loop-index.invariant.ends
