use Rattle.std.proofs.Common.{◌≡◌, set, sym, ap, subst, ◌∙◌}
use Rattle.std.proofs.lemmas.Result.{err_from_is_err_and}
use Rattle.med_base.specs.declared.member.MemberState.TheVariants as state
use Rattle.collect_core.specs.Collecting.{Collecting}
use Rattle.collect_core.specs.Giving.{Gives, IsAt, IsIdleAt}
use Rattle.collect_core.specs.Members.{AreSound, HasAccepted, Member, member_now}
use Rattle.collect_core.proofs.Gathering.{giving_to, members_sound}
use Rattle.collect_core.proofs.Places.{set_same, some_inside, stands_at}
use Rattle.collect_core.proofs.collector.AtomCollector.give.Goals as goal

pub returns-in_err-give-clause-err : goal.returns-in_err-give-clause-err
returns-in_err-give-clause-err g c =
    let in' = c.self.inside in
    let old : Collecting g.row.S.Denot = record { columns = in'.columns; select = in'.selection; members = in'.members.items } in
    let idle : IsIdleAt old.members c.args.index = subst (λ (s : Collecting g.row.S.Denot). IsIdleAt s.members c.args.index) (sym c.self.view_is) c.requires.idle in
    let inside = some_inside (λ (m : Member g.row.S.Denot). (member_now m).state ≡ state.Idle) old.members c.args.index idle in
    let there = stands_at old.members c.args.index c.index_mut.result.now inside c.index_mut.ensures.value in
    let same : set old.members c.args.index c.give.new.self ≡ old.members = ap (set old.members c.args.index) c.in_err-give.ensures.err ∙ set_same old.members c.args.index c.index_mut.result.now there in
    let p = err_from_is_err_and c.from_residual.result c.from_residual.ensures.1 in
    rw p.1 (ap (λ ms. record old { members = ms }) same ∙ c.self.view_is)

pub returns-in_err-give-clause-sound : goal.returns-in_err-give-clause-sound
returns-in_err-give-clause-sound g c =
    let in' = c.self.inside in
    let old : Collecting g.row.S.Denot = record { columns = in'.columns; select = in'.selection; members = in'.members.items } in
    let idle : IsIdleAt old.members c.args.index = subst (λ (s : Collecting g.row.S.Denot). IsIdleAt s.members c.args.index) (sym c.self.view_is) c.requires.idle in
    let inside = some_inside (λ (m : Member g.row.S.Denot). (member_now m).state ≡ state.Idle) old.members c.args.index idle in
    let there = stands_at old.members c.args.index c.index_mut.result.now inside c.index_mut.ensures.value in
    let same : set old.members c.args.index c.give.new.self ≡ old.members = ap (set old.members c.args.index) c.in_err-give.ensures.err ∙ set_same old.members c.args.index c.index_mut.result.now there in
    subst (AreSound g.S.Source old.columns) (sym same) (members_sound g.S.Source old.columns old.members c.self.invariant.members)

pub invariant_of-self-2 : goal.invariant_of-self-2
invariant_of-self-2 g c =
    let in' = c.self.inside in
    let old : Collecting g.row.S.Denot = record { columns = in'.columns; select = in'.selection; members = in'.members.items } in
    let idle : IsIdleAt old.members c.args.index = subst (λ (s : Collecting g.row.S.Denot). IsIdleAt s.members c.args.index) (sym c.self.view_is) c.requires.idle in
    let at : IsAt old.members c.args.index (g.S.Source.location c.args.source)
    = subst (λ (s : Collecting g.row.S.Denot). IsAt s.members c.args.index (g.S.Source.location c.args.source)) (sym c.self.view_is) c.requires.at in
    let to = giving_to g.S.Source old c.args.index c.args.source c.index_mut.result.now c.give.new.self c.self.invariant idle at c.index_mut.ensures.value c.in_ok-give.ensures.ok in
    to.collector

pub returns-clause-ok : goal.returns-clause-ok
returns-clause-ok g c =
    let in' = c.self.inside in
    let old : Collecting g.row.S.Denot = record { columns = in'.columns; select = in'.selection; members = in'.members.items } in
    let idle : IsIdleAt old.members c.args.index = subst (λ (s : Collecting g.row.S.Denot). IsIdleAt s.members c.args.index) (sym c.self.view_is) c.requires.idle in
    let at : IsAt old.members c.args.index (g.S.Source.location c.args.source)
    = subst (λ (s : Collecting g.row.S.Denot). IsAt s.members c.args.index (g.S.Source.location c.args.source)) (sym c.self.view_is) c.requires.at in
    let to = giving_to g.S.Source old c.args.index c.args.source c.index_mut.result.now c.give.new.self c.self.invariant idle at c.index_mut.ensures.value c.in_ok-give.ensures.ok in
    subst (λ s. Gives g.S.Source s (record old { members = set old.members c.args.index c.give.new.self }) c.args.index c.args.source) c.self.view_is to.gives

pub returns-clause-accepted : goal.returns-clause-accepted
returns-clause-accepted g c accepted has =
    let in' = c.self.inside in
    let old : Collecting g.row.S.Denot = record { columns = in'.columns; select = in'.selection; members = in'.members.items } in
    let idle : IsIdleAt old.members c.args.index = subst (λ (s : Collecting g.row.S.Denot). IsIdleAt s.members c.args.index) (sym c.self.view_is) c.requires.idle in
    let at : IsAt old.members c.args.index (g.S.Source.location c.args.source)
    = subst (λ (s : Collecting g.row.S.Denot). IsAt s.members c.args.index (g.S.Source.location c.args.source)) (sym c.self.view_is) c.requires.at in
    let to = giving_to g.S.Source old c.args.index c.args.source c.index_mut.result.now c.give.new.self c.self.invariant idle at c.index_mut.ensures.value c.in_ok-give.ensures.ok in
    to.accepted accepted (subst (λ (s : Collecting g.row.S.Denot). HasAccepted g.S.Source s.members accepted) (sym c.self.view_is) has)

pub returns-clause-sound : goal.returns-clause-sound
returns-clause-sound g c =
    let in' = c.self.inside in
    let old : Collecting g.row.S.Denot = record { columns = in'.columns; select = in'.selection; members = in'.members.items } in
    let idle : IsIdleAt old.members c.args.index = subst (λ (s : Collecting g.row.S.Denot). IsIdleAt s.members c.args.index) (sym c.self.view_is) c.requires.idle in
    let at : IsAt old.members c.args.index (g.S.Source.location c.args.source)
    = subst (λ (s : Collecting g.row.S.Denot). IsAt s.members c.args.index (g.S.Source.location c.args.source)) (sym c.self.view_is) c.requires.at in
    let to = giving_to g.S.Source old c.args.index c.args.source c.index_mut.result.now c.give.new.self c.self.invariant idle at c.index_mut.ensures.value c.in_ok-give.ensures.ok in
    to.sound
