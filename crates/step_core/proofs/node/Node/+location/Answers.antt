use Rattle.std.proofs.Common.{sym, ap, ◌∙◌, option_map}
use Rattle.med_prelude.specs.Texts.{Bytes}
use Rattle.collect_core.specs.Members.{Member}
use Rattle.step_core.specs.Members.{member_in}
use Rattle.step_core.specs.Viewed.{tree_of}
use Rattle.step_core.proofs.Finding.{as_left, as_right}
use Rattle.step_core.proofs.node.Node.+location.Goals as goal

pub returns-in-Some : goal.returns-in-Some
returns-in-Some g t c =
    let at : Member g.row.S.Denot → Bytes = λ m. m.location in
    rw c.in-Join.is (as_left at c.args.name c.in-Join.field-2 (tree_of c.in-Join.left.value) (tree_of c.in-Join.right.value) c.in-Some.location.now
    (ap (option_map (λ text. text.now)) (sym c.in-Some.is) ∙ c.location-in-Join.ensures ∙ ap (λ n. option_map at (member_in c.args.name (tree_of n))) c.deref.ensures))

pub returns-in-None : goal.returns-in-None
returns-in-None g t c =
    let at : Member g.row.S.Denot → Bytes = λ m. m.location in
    rw c.in-Join.is (as_right at c.args.name c.in-Join.field-2 (tree_of c.in-Join.left.value) (tree_of c.in-Join.right.value) (option_map (λ text. text.now) c.location-in-None.result)
    (ap (option_map (λ text. text.now)) (sym c.in-None.is) ∙ c.location-in-Join.ensures ∙ ap (λ n. option_map at (member_in c.args.name (tree_of n))) c.deref.ensures)
    (c.location-in-None.ensures ∙ ap (λ n. option_map at (member_in c.args.name (tree_of n))) c.deref-in-None.ensures))
