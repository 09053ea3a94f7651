use Rattle.std.proofs.Common.{◌≡◌, ◌++◌, drop}
use Rattle.plan_checker.specs.Uses.{nodes_in}
use Rattle.plan_checker.proofs.uses.nodes_in.Given as goal

-- the nodes so far stand before those of the fragments that are left
abbrev pub invariant-loop-fragment : goal.invariant-loop-fragment
invariant-loop-fragment l = l.nodes.items ++ nodes_in (drop l.fragment-index l.fragments) ≡ nodes_in l.fragments
