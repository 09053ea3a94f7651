use Rattle.std.proofs.Common.{◌≤◌, length, arith, ap, ◌∙◌}
use Rattle.join_trees.specs.Shapes.{joined, stack_of}
use Rattle.join_trees.proofs.ShapeLaws.{join_length, join_nodes, join_stack}
use Rattle.join_trees.proofs.stack.Stack.join.Goals as goal

pub invariant_of-self-2 : goal.invariant_of-self-2
invariant_of-self-2 c =
    let ns = c.self.inside.nodes.items in
    let two : 2 ≤ length (stack_of ns) = omega (arith, c.self.invariant.1, c.if-self-lt2.false) in (
      join_nodes ns c.push.new.self.items c.args.join c.self.invariant.0 two c.in_ok-push.ensures.items,
      omega (arith, join_length ns c.push.new.self.items c.args.join two c.in_ok-push.ensures.items, c.self.invariant.1),
    )

pub returns : goal.returns
returns c =
    let ns = c.self.inside.nodes.items in
    let two : 2 ≤ length (stack_of ns) = omega (arith, c.self.invariant.1, c.if-self-lt2.false) in
    join_stack ns c.push.new.self.items c.args.join two c.in_ok-push.ensures.items ∙ ap (joined c.args.join) c.self.view_is
