use Rattle.std.proofs.Common.{◌≡◌, ◌<◌, length, set, sym, subst}
use Rattle.med_base.specs.declared.member.MemberState.TheVariants as state
use Rattle.collect_core.specs.Collecting.{Collecting}
use Rattle.collect_core.specs.Giving.{FailsOpening, IsIdleAt}
use Rattle.collect_core.specs.Members.{HasAccepted, IsMember, Member, member_now}
use Rattle.collect_core.proofs.Gathering.{changed_collector, changed_sound, fails_opening, opening_kept}
use Rattle.collect_core.proofs.Places.{all_at, some_inside, stands_at}
use Rattle.collect_core.proofs.collector.AtomCollector.opening_failed.Goals as goal

pub returns-clause-accepted : goal.returns-clause-accepted
returns-clause-accepted g c accepted has =
    let idle = subst (λ (s : Collecting g.row.S.Denot). IsIdleAt s.members c.args.index) (sym c.self.view_is) c.requires.idle in
    let inside : c.args.index < length c.self.inside.members.items = some_inside (λ (m : Member g.row.S.Denot). (member_now m).state ≡ state.Idle) c.self.inside.members.items c.args.index idle in
    let at = stands_at c.self.inside.members.items c.args.index c.index_mut.result.now inside c.index_mut.ensures.value in
    let before = subst (λ (s : Collecting g.row.S.Denot). HasAccepted g.S.Source s.members accepted) (sym c.self.view_is) has in
    opening_kept g.S.Source c.self.inside.members.items c.args.index c.index_mut.result.now c.fail_opening.new.self accepted at c.fail_opening.ensures before

pub returns-clause-sound : goal.returns-clause-sound
returns-clause-sound g c =
    let idle = subst (λ (s : Collecting g.row.S.Denot). IsIdleAt s.members c.args.index) (sym c.self.view_is) c.requires.idle in
    let inside : c.args.index < length c.self.inside.members.items = some_inside (λ (m : Member g.row.S.Denot). (member_now m).state ≡ state.Idle) c.self.inside.members.items c.args.index idle in
    let at = stands_at c.self.inside.members.items c.args.index c.index_mut.result.now inside c.index_mut.ensures.value in
    let was = all_at (IsMember g.S.Source c.self.inside.columns) c.self.inside.members.items c.args.index c.index_mut.result.now at c.self.invariant.members in
    changed_sound g.S.Source c.self.inside.columns c.self.inside.members.items c.args.index c.fail_opening.new.self c.self.invariant.members
    (subst (IsMember g.S.Source c.self.inside.columns) (sym c.fail_opening.ensures) was)

pub invariant_of-self : goal.invariant_of-self
invariant_of-self g c =
    let in' = c.self.inside in
    let old : Collecting g.row.S.Denot = record { columns = in'.columns; select = in'.selection; members = in'.members.items } in
    let idle = subst (λ (s : Collecting g.row.S.Denot). IsIdleAt s.members c.args.index) (sym c.self.view_is) c.requires.idle in
    let inside : c.args.index < length old.members = some_inside (λ (m : Member g.row.S.Denot). (member_now m).state ≡ state.Idle) old.members c.args.index idle in
    let at = stands_at old.members c.args.index c.index_mut.result.now inside c.index_mut.ensures.value in
    let was = all_at (IsMember g.S.Source old.columns) old.members c.args.index c.index_mut.result.now at c.self.invariant.members in
    changed_collector g.S.Source old c.args.index c.fail_opening.new.self c.self.invariant (subst (IsMember g.S.Source old.columns) (sym c.fail_opening.ensures) was)

pub returns-clause-fails : goal.returns-clause-fails
returns-clause-fails g c =
    let in' = c.self.inside in
    let old : Collecting g.row.S.Denot = record { columns = in'.columns; select = in'.selection; members = in'.members.items } in
    let idle = subst (λ (s : Collecting g.row.S.Denot). IsIdleAt s.members c.args.index) (sym c.self.view_is) c.requires.idle in
    let inside : c.args.index < length old.members = some_inside (λ (m : Member g.row.S.Denot). (member_now m).state ≡ state.Idle) old.members c.args.index idle in
    subst (λ s. FailsOpening s (record old { members = set old.members c.args.index c.fail_opening.new.self }) c.args.index) c.self.view_is
    (fails_opening old c.args.index c.index_mut.result.now c.fail_opening.new.self inside c.index_mut.ensures.value c.fail_opening.ensures)
