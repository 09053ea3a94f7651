use Rattle.std.proofs.Common.{◌≡◌, ◌++◌, drop, map}
use Rattle.plan_reader.specs.Own.{own_name}
use Rattle.plan_reader.proofs.own.own_names.Given as goal

-- the names so far stand before those of the fragments that are left
abbrev pub invariant-loop-fragment : goal.invariant-loop-fragment
invariant-loop-fragment l = l.names ++ map own_name (drop l.fragment-index l.fragments) ≡ map own_name l.fragments
