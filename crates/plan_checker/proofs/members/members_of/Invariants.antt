use Rattle.std.proofs.Common.{◌≡◌, ◌++◌, drop, flat_map}
use Rattle.plan_checker.specs.Members.{members_at}
use Rattle.plan_checker.proofs.members.members_of.Given as goal

-- the members so far stand before those of the groups that are left
abbrev pub invariant-loop-group : goal.invariant-loop-group
invariant-loop-group l = l.members ++ flat_map (members_at l.query l.catalogue) (drop l.group-index l.groups) ≡ flat_map (members_at l.query l.catalogue) l.groups
