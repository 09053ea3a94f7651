use Rattle.std.proofs.Common.{◌≡◌, ◌++◌, drop}
use Rattle.std.specs.List.{filter_map}
use Rattle.plan_checker.specs.Uses.{fragment_of}
use Rattle.plan_checker.proofs.uses.fragments_used.Given as goal

-- the fragments so far stand before those of the nodes that are left
abbrev pub invariant-loop-node : goal.invariant-loop-node
invariant-loop-node l = l.fragments ++ filter_map fragment_of (drop l.node-index l.nodes) ≡ filter_map fragment_of l.nodes
