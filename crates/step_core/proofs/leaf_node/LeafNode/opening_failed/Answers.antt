use Rattle.std.proofs.Common.{◌≡◌, sym, subst, ◌∙◌}
use Rattle.std.specs.Prelude.{IsSomeAnd}
use Rattle.std.specs.List.{find}
use Rattle.med_base.specs.declared.member.MemberState.TheVariants as state
use Rattle.collect_core.specs.Giving.{IsIdleAt}
use Rattle.collect_core.specs.Members.{Member, is_named, member_now}
use Rattle.step_core.specs.Members.{KeepsLeaf}
use Rattle.step_core.specs.Nets.{LeafState}
use Rattle.step_core.proofs.Changing.{failing_keeps, found_holds, found_somewhere}
use Rattle.step_core.proofs.leaf_node.LeafNode.opening_failed.Goals as goal

pub unreachable-requires : goal.unreachable-requires
unreachable-requires g c =
    let idle = subst (λ (l : LeafState g.row.S.Denot). IsSomeAnd (find (is_named c.args.name) l.collecting.members) (λ m. (member_now m).state ≡ state.Idle)) (sym c.self.view_is) c.requires in
    found_somewhere (λ (m : Member g.row.S.Denot). (member_now m).state ≡ state.Idle) (is_named c.args.name) c.self.inside.collector.members (sym c.find.ensures ∙ c.in_default.is) idle

pub opening_failed-requires : goal.opening_failed-requires
opening_failed-requires g c =
    let idle = subst (λ (l : LeafState g.row.S.Denot). IsSomeAnd (find (is_named c.args.name) l.collecting.members) (λ m. (member_now m).state ≡ state.Idle)) (sym c.self.view_is) c.requires in
    record { idle = found_holds (λ (m : Member g.row.S.Denot). (member_now m).state ≡ state.Idle) (is_named c.args.name) c.self.inside.collector.members c.in-Some.index (sym c.find.ensures ∙ c.in-Some.is) idle }

pub returns-clause-kept : goal.returns-clause-kept
returns-clause-kept g c =
    let s : LeafState g.row.S.Denot = record { atom = c.self.inside.atom; collecting = c.self.inside.collector } in
    let t : LeafState g.row.S.Denot = record { atom = c.self.inside.atom; collecting = c.opening_failed.new.self } in
    let idle = subst (λ (l : LeafState g.row.S.Denot). IsSomeAnd (find (is_named c.args.name) l.collecting.members) (λ m. (member_now m).state ≡ state.Idle)) (sym c.self.view_is) c.requires in
    let there : IsIdleAt s.collecting.members c.in-Some.index
    = found_holds (λ (m : Member g.row.S.Denot). (member_now m).state ≡ state.Idle) (is_named c.args.name) c.self.inside.collector.members c.in-Some.index (sym c.find.ensures ∙ c.in-Some.is) idle in
    subst (λ (l : LeafState g.row.S.Denot). KeepsLeaf g.S.Source l t) c.self.view_is (failing_keeps g.S.Source s t c.in-Some.index c.opening_failed.ensures.fails there c.opening_failed.ensures.accepted c.stands.ensures.told c.stands.ensures.sound)
