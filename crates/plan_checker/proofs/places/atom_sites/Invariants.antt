use Rattle.std.proofs.Common.{◌≡◌, ◌++◌, drop}
use Rattle.std.specs.List.{filter_map}
use Rattle.plan_checker.specs.Places.{atom_site}
use Rattle.plan_checker.proofs.places.atom_sites.Given as goal

-- the atoms so far stand before those of the nodes that are left
abbrev pub invariant-loop-node : goal.invariant-loop-node
invariant-loop-node l = l.sites ++ filter_map atom_site (drop l.node-index l.nodes) ≡ filter_map atom_site l.nodes
