use Rattle.std.proofs.Common.{◌≡◌, ◌++◌, drop}
use Rattle.std.specs.List.{filter_map}
use Rattle.plan_checker.specs.Uses.{atom_of}
use Rattle.plan_checker.proofs.uses.atoms_used.Given as goal

-- the atoms so far stand before those of the nodes that are left
abbrev pub invariant-loop-node : goal.invariant-loop-node
invariant-loop-node l = l.atoms ++ filter_map atom_of (drop l.node-index l.nodes) ≡ filter_map atom_of l.nodes
