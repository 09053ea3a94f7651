use Rattle.std.proofs.Common.{◌≡◌, ap, sym, subst, ◌∙◌, option_map, true, false, ◌<◌, arith}
use Rattle.std.specs.Option.{is_some}
use Rattle.med_base.specs.declared.member.MemberState.TheVariants as state
use Rattle.collect_core.specs.Members.{Member, member_now}
use Rattle.step_core.specs.Members.{IsIdleIn, KeepsTree, member_in}
use Rattle.step_core.specs.Viewed.{tree_of}
use Rattle.step_core.proofs.Finding.{holds_left, holds_right}
use Rattle.step_core.proofs.Keeping.{keeps_left, keeps_right, operators}
use Rattle.step_core.proofs.node.Node.+opening_failed.Goals as goal

pub opening_failed-requires-then-is_some : goal.opening_failed-requires-then-is_some
opening_failed-requires-then-is_some g t c κs within =
    let a = tree_of c.in-Join.left.value in
    let b = tree_of c.in-Join.right.value in
    let found : is_some (option_map member_now (member_in c.args.name a)) ≡ true
    = ap (λ n. is_some (option_map member_now (member_in c.args.name (tree_of n)))) (sym c.deref.ensures) ∙ ap is_some (sym c.member.ensures) ∙ sym c.is_some.ensures ∙ c.if-is_some.true in
    let idle = holds_left (λ (m : Member g.row.S.Denot). (member_now m).state ≡ state.Idle) c.args.name c.in-Join.field-2 a b found (subst (λ n. IsIdleIn c.args.name (tree_of n)) c.in-Join.is c.requires) in
    let deep = ap (λ n. operators (tree_of n)) c.in-Join.is in
    let part = ap (λ n. operators (tree_of n)) c.deref_mut.ensures.value in
    let before : operators (tree_of c.args.self.now) ≡ t = c.decreases in
    let less : operators (tree_of c.deref_mut.result.now) < t = omega arith in
    (less, (within.0, (within.1, subst (λ n. IsIdleIn c.args.name (tree_of n)) (sym c.deref_mut.ensures.value) idle)))

pub opening_failed-requires-else-is_some : goal.opening_failed-requires-else-is_some
opening_failed-requires-else-is_some g t c κs within =
    let a = tree_of c.in-Join.left.value in
    let b = tree_of c.in-Join.right.value in
    let found : is_some (option_map member_now (member_in c.args.name a)) ≡ false
    = ap (λ n. is_some (option_map member_now (member_in c.args.name (tree_of n)))) (sym c.deref.ensures) ∙ ap is_some (sym c.member.ensures) ∙ sym c.is_some.ensures ∙ c.if-is_some.false in
    let idle = holds_right (λ (m : Member g.row.S.Denot). (member_now m).state ≡ state.Idle) c.args.name c.in-Join.field-2 a b found (subst (λ n. IsIdleIn c.args.name (tree_of n)) c.in-Join.is c.requires) in
    let deep = ap (λ n. operators (tree_of n)) c.in-Join.is in
    let part = ap (λ n. operators (tree_of n)) c.deref_mut-else-is_some.ensures.value in
    let before : operators (tree_of c.args.self.now) ≡ t = c.decreases in
    let less : operators (tree_of c.deref_mut-else-is_some.result.now) < t = omega arith in
    (less, (within.0, (within.1, subst (λ n. IsIdleIn c.args.name (tree_of n)) (sym c.deref_mut-else-is_some.ensures.value) idle)))

pub returns-then-is_some-clause-kept : goal.returns-then-is_some-clause-kept
returns-then-is_some-clause-kept g t c =
    let kept = subst (λ n. KeepsTree g.S.Source (tree_of n) (tree_of c.opening_failed-then-is_some.new.self)) c.deref_mut.ensures.value c.opening_failed-then-is_some.ensures.kept in
    rw c.in-Join.is (keeps_left g.S.Source c.in-Join.field-2 (tree_of c.in-Join.left.value) (tree_of c.in-Join.right.value) (tree_of c.opening_failed-then-is_some.new.self) kept)

pub returns-else-is_some-clause-kept : goal.returns-else-is_some-clause-kept
returns-else-is_some-clause-kept g t c =
    let kept = subst (λ n. KeepsTree g.S.Source (tree_of n) (tree_of c.opening_failed-else-is_some.new.self)) c.deref_mut-else-is_some.ensures.value c.opening_failed-else-is_some.ensures.kept in
    rw c.in-Join.is (keeps_right g.S.Source c.in-Join.field-2 (tree_of c.in-Join.left.value) (tree_of c.in-Join.right.value) (tree_of c.opening_failed-else-is_some.new.self) kept)
