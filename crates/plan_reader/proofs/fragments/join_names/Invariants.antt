use Rattle.std.proofs.Common.{◌≡◌, ◌++◌, drop, map}
use Rattle.plan_reader.specs.Fragments.{joins_written}
use Rattle.plan_reader.proofs.fragments.join_names.Given as goal

-- the names so far stand before those of the fragments that are left
abbrev pub invariant-loop-fragment : goal.invariant-loop-fragment
invariant-loop-fragment l = l.names ++ map joins_written (drop l.fragment-index l.fragments) ≡ map joins_written l.fragments
