use Rattle.std.proofs.Common.{sym, subst, ◌∙◌}
use Rattle.step_core.specs.Planting.{IsFresh}
use Rattle.step_core.specs.Viewed.{tree_of}
use Rattle.step_core.proofs.Suiting.{leaf_fresh}
use Rattle.step_core.proofs.planting.FreshTree.atom.Goals as goal

pub invariant_of-result : goal.invariant_of-result
invariant_of-result g c = subst (λ n. IsFresh g.S.Source (tree_of n) c.in_ok-variables.variables) (sym c.in_ok-node.ensures.ok)
    (leaf_fresh g.S.Source c.args.atom c.in_ok-leaf.leaf c.in_ok-variables.variables c.requires c.in_ok-leaf.ensures.new c.in_ok-leaf.ensures.selected (c.in_ok-variables.ensures ∙ c.variables.ensures))
