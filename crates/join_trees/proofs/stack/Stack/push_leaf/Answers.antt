use Rattle.std.proofs.Common.{◌∷◌, List, length, arith, ap, ◌∙◌}
use Rattle.join_trees.specs.Shapes.{Shape, tip}
use Rattle.join_trees.proofs.ShapeLaws.{leaf_nodes, leaf_stack}
use Rattle.join_trees.proofs.stack.Stack.push_leaf.Goals as goal

pub invariant_of-self-2 : goal.invariant_of-self-2
invariant_of-self-2 c =
    let ns = c.self.inside.nodes.items in (
      leaf_nodes ns c.push.new.self.items c.args.leaf c.self.invariant.0 c.in_ok-push.ensures.items,
      omega (arith, ap (λ (ts : List Shape). length ts) (leaf_stack ns c.push.new.self.items c.args.leaf c.in_ok-push.ensures.items), c.self.invariant.1),
    )

pub returns : goal.returns
returns c =
    leaf_stack c.self.inside.nodes.items c.push.new.self.items c.args.leaf c.in_ok-push.ensures.items ∙ ap (λ (ts : List Shape). tip c.args.leaf ∷ ts) c.self.view_is
