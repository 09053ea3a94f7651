use Rattle.std.proofs.Common.{◌≡◌, ◌++◌, drop}
use Rattle.std.specs.List.{filter_map}
use Rattle.join_trees.specs.Shapes.{join_in}
use Rattle.plan_checker.proofs.uses.joins_used.Given as goal

-- the joins so far stand before those of the nodes that are left
abbrev pub invariant-loop-node : goal.invariant-loop-node
invariant-loop-node l = l.joins ++ filter_map join_in (drop l.node-index l.nodes) ≡ filter_map join_in l.nodes
