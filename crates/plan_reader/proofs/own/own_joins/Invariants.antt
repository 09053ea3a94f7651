use Rattle.std.proofs.Common.{◌≡◌, ◌++◌, drop, map}
use Rattle.plan_reader.specs.Own.{own_joins}
use Rattle.plan_reader.proofs.own.own_joins.Given as goal

-- the names so far stand before those of the fragments that are left
abbrev pub invariant-loop-fragment : goal.invariant-loop-fragment
invariant-loop-fragment l = l.names ++ map own_joins (drop l.fragment-index l.fragments) ≡ map own_joins l.fragments
