use Rattle.std.proofs.Common.{◌≡◌, sym, subst, refl, ◌∙◌}
use Rattle.std.specs.Prelude.{IsSomeAnd}
use Rattle.std.specs.List.{find}
use Rattle.med_base.specs.declared.member.MemberState.TheVariants as state
use Rattle.collect_core.specs.Giving.{IsIdleAt}
use Rattle.collect_core.specs.Members.{Member, is_named, member_now}
use Rattle.step_core.specs.Members.{KeepsLeaf}
use Rattle.step_core.specs.Nets.{LeafState}
use Rattle.step_core.proofs.Changing.{found_holds, found_somewhere, giving_keeps_after}
use Rattle.step_core.proofs.leaf_node.LeafNode.give.Goals as goal

pub unreachable-requires : goal.unreachable-requires
unreachable-requires g c =
    let idle = subst (λ (l : LeafState g.row.S.Denot). IsSomeAnd (find (is_named c.args.name) l.collecting.members) (λ m. (member_now m).state ≡ state.Idle)) (sym c.self.view_is) c.requires.idle in
    found_somewhere (λ (m : Member g.row.S.Denot). (member_now m).state ≡ state.Idle) (is_named c.args.name) c.self.inside.collector.members (sym c.find.ensures ∙ c.in_default.is) idle

pub give-given-requires-clause-idle : goal.give-given-requires-clause-idle
give-given-requires-clause-idle g c =
    let idle = subst (λ (l : LeafState g.row.S.Denot). IsSomeAnd (find (is_named c.args.name) l.collecting.members) (λ m. (member_now m).state ≡ state.Idle)) (sym c.self.view_is) c.requires.idle in
    found_holds (λ (m : Member g.row.S.Denot). (member_now m).state ≡ state.Idle) (is_named c.args.name) c.self.inside.collector.members c.in-Some.index (sym c.find.ensures ∙ c.in-Some.is) idle

pub give-given-requires-clause-at : goal.give-given-requires-clause-at
give-given-requires-clause-at g c =
    let at = subst (λ (l : LeafState g.row.S.Denot). IsSomeAnd (find (is_named c.args.name) l.collecting.members) (λ m. m.location ≡ g.S.Source.location c.args.source)) (sym c.self.view_is) c.requires.at in
    found_holds (λ (m : Member g.row.S.Denot). m.location ≡ g.S.Source.location c.args.source) (is_named c.args.name) c.self.inside.collector.members c.in-Some.index (sym c.find.ensures ∙ c.in-Some.is) at

pub returns-clause-kept : goal.returns-clause-kept
returns-clause-kept g c =
    let s : LeafState g.row.S.Denot = record { atom = c.self.inside.atom; collecting = c.self.inside.collector } in
    let t : LeafState g.row.S.Denot = record { atom = c.self.inside.atom; collecting = c.give-given.new.self } in
    let idle = subst (λ (l : LeafState g.row.S.Denot). IsSomeAnd (find (is_named c.args.name) l.collecting.members) (λ m. (member_now m).state ≡ state.Idle)) (sym c.self.view_is) c.requires.idle in
    let there : IsIdleAt s.collecting.members c.in-Some.index
    = found_holds (λ (m : Member g.row.S.Denot). (member_now m).state ≡ state.Idle) (is_named c.args.name) c.self.inside.collector.members c.in-Some.index (sym c.find.ensures ∙ c.in-Some.is) idle in
    subst (λ (l : LeafState g.row.S.Denot). KeepsLeaf g.S.Source l t) c.self.view_is
    (giving_keeps_after g.S.Source s t c.in-Some.index c.args.source c.give-given.result c.give-given.ensures.ok c.give-given.ensures.err refl there c.give-given.ensures.accepted c.stands.ensures.told c.stands.ensures.sound)
