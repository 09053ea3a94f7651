use Rattle.std.proofs.Common.{sym, ap, ◌∙◌, option_map}
use Rattle.collect_core.specs.Members.{member_now}
use Rattle.step_core.specs.Members.{member_in}
use Rattle.step_core.specs.Viewed.{tree_of}
use Rattle.step_core.proofs.Finding.{as_left, as_right}
use Rattle.step_core.proofs.node.Node.+member.Goals as goal

pub returns-in-Some : goal.returns-in-Some
returns-in-Some g t c = rw c.in-Join.is (as_left member_now c.args.name c.in-Join.field-2 (tree_of c.in-Join.left.value) (tree_of c.in-Join.right.value) c.in-Some.now
    (sym c.in-Some.is ∙ c.member-in-Join.ensures ∙ ap (λ n. option_map member_now (member_in c.args.name (tree_of n))) c.deref.ensures))

pub returns-in-None : goal.returns-in-None
returns-in-None g t c = rw c.in-Join.is (as_right member_now c.args.name c.in-Join.field-2 (tree_of c.in-Join.left.value) (tree_of c.in-Join.right.value) c.member-in-None.result
    (sym c.in-None.is ∙ c.member-in-Join.ensures ∙ ap (λ n. option_map member_now (member_in c.args.name (tree_of n))) c.deref.ensures)
    (c.member-in-None.ensures ∙ ap (λ n. option_map member_now (member_in c.args.name (tree_of n))) c.deref-in-None.ensures))
