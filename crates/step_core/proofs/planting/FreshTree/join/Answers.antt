use Rattle.std.proofs.Common.{◌≡◌, sym, ap, subst, ◌∙◌}
use Rattle.step_core.specs.Nets.{variables}
use Rattle.step_core.specs.Planting.{FitsJoin, IsFresh}
use Rattle.step_core.specs.Viewed.{tree_of}
use Rattle.step_core.proofs.Suiting.{fork_fresh}
use Rattle.step_core.proofs.planting.FreshTree.join.Goals as goal

pub invariant_of-result : goal.invariant_of-result
invariant_of-result g c =
    let left : c.left.inside.variables ≡ variables c.args.left = c.left.invariant.variables ∙ ap variables c.left.view_is in
    let right : c.right.inside.variables ≡ variables c.args.right = c.right.invariant.variables ∙ ap variables c.right.view_is in
    let fits : FitsJoin c.left.inside.variables c.right.inside.variables c.args.join
    = subst (λ us. FitsJoin us c.right.inside.variables c.args.join) (sym left) (subst (λ vs. FitsJoin (variables c.args.left) vs c.args.join) (sym right) c.requires) in
    subst (λ n. IsFresh g.S.Source (tree_of n) c.in_ok-join.variables) (sym c.in_ok-node.ensures.ok)
    (fork_fresh g.S.Source c.args.join c.in_ok-join.join (tree_of c.left.inside.node.value) (tree_of c.right.inside.node.value) c.left.inside.variables c.right.inside.variables c.in_ok-join.variables
    c.left.invariant c.right.invariant c.in_ok-join.ensures.join fits c.in_ok-join.ensures.variables c.in_ok-join.ensures.few)
