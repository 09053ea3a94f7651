use Rattle.std.proofs.Common.{◌<◌, length, set, sym, subst}
use Rattle.answer_theory.specs.Bags.{weight_of}
use Rattle.collect_core.specs.Collecting.{Collecting, work_left}
use Rattle.collect_core.specs.Members.{member_left}
use Rattle.collect_core.specs.Steps.{Falls, StepsHeld}
use Rattle.collect_core.proofs.Gathering.{changed_sound, gathers_held, stepped_held, work_falls}
use Rattle.collect_core.proofs.Places.{stands_at}
use Rattle.collect_core.proofs.collector.AtomCollector.accept.Goals as goal

pub returns-clause-steps : goal.returns-clause-steps
returns-clause-steps g c =
    let in' = c.self.inside in
    let old : Collecting g.row.S.Denot = record { columns = in'.columns; select = in'.selection; members = in'.members.items } in
    let inside : c.args.index < length old.members = subst (λ (s : Collecting g.row.S.Denot). c.args.index < length s.members) (sym c.self.view_is) c.requires in
    subst (λ s. StepsHeld g.S.Source s (record old { members = set old.members c.args.index c.accept.new.self }) c.args.index c.accept.result) c.self.view_is
    (stepped_held g.S.Source old c.args.index c.index_mut.result.now c.accept.new.self c.accept.result inside c.index_mut.ensures.value c.accept.ensures.steps)

pub returns-clause-gathers : goal.returns-clause-gathers
returns-clause-gathers g c accepted has =
    let in' = c.self.inside in
    let old : Collecting g.row.S.Denot = record { columns = in'.columns; select = in'.selection; members = in'.members.items } in
    let new : Collecting g.row.S.Denot = record old { members = set old.members c.args.index c.accept.new.self } in
    let inside : c.args.index < length old.members = subst (λ (s : Collecting g.row.S.Denot). c.args.index < length s.members) (sym c.self.view_is) c.requires in
    let steps : StepsHeld g.S.Source c.args.self.now new c.args.index c.accept.result = subst (λ s. StepsHeld g.S.Source s new c.args.index c.accept.result) c.self.view_is
    (stepped_held g.S.Source old c.args.index c.index_mut.result.now c.accept.new.self c.accept.result inside c.index_mut.ensures.value c.accept.ensures.steps) in
    gathers_held g.S.Source c.args.self.now new c.args.index c.accept.result accepted steps has

pub returns-clause-falls : goal.returns-clause-falls
returns-clause-falls g c =
    let in' = c.self.inside in
    let members = in'.members.items in
    let inside : c.args.index < length members = subst (λ (s : Collecting g.row.S.Denot). c.args.index < length s.members) (sym c.self.view_is) c.requires in
    let at = stands_at members c.args.index c.index_mut.result.now inside c.index_mut.ensures.value in
    subst (λ s. Falls c.accept.result (work_left g.S.Source s) (weight_of (member_left g.S.Source) (set members c.args.index c.accept.new.self))) c.self.view_is
    (work_falls g.S.Source members c.args.index c.index_mut.result.now c.accept.new.self c.accept.result at c.accept.ensures.falls)

pub returns-clause-sound : goal.returns-clause-sound
returns-clause-sound g c = changed_sound g.S.Source c.self.inside.columns c.self.inside.members.items c.args.index c.accept.new.self c.self.invariant.members c.accept.ensures.member
