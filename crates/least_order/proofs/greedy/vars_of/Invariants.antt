use Rattle.std.proofs.Common.{◌≡◌, drop}
use Rattle.least_order.specs.Merging.{joined_vars}
use Rattle.least_order.specs.Sets.{members_from}
use Rattle.least_order.proofs.greedy.vars_of.Given as goal

abbrev pub invariant-loop-position : goal.invariant-loop-position
invariant-loop-position l = l.vars ≡ joined_vars (members_from l.position (drop l.position l.items) l.set)
