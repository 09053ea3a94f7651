use Rattle.std.proofs.Common.{◌≡◌, ◌++◌, drop, flat_map}
use Rattle.plan_checker.specs.Members.{groups_at}
use Rattle.plan_checker.proofs.members.groups_of.Given as goal

-- the groups so far stand before those of the atoms that are left
abbrev pub invariant-loop-atom : goal.invariant-loop-atom
invariant-loop-atom l = l.groups ++ flat_map (groups_at l.query l.catalogue) (drop l.atom-index l.atoms) ≡ flat_map (groups_at l.query l.catalogue) l.atoms
