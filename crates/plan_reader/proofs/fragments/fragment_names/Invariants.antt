use Rattle.std.proofs.Common.{◌≡◌, ◌++◌, drop, map}
use Rattle.plan_reader.specs.Fragments.{names_of}
use Rattle.plan_reader.proofs.fragments.fragment_names.Given as goal

-- the names so far stand before those of the fragments that are left
abbrev pub invariant-loop-fragment : goal.invariant-loop-fragment
invariant-loop-fragment l = l.names ++ map names_of (drop l.fragment-index l.fragments) ≡ map names_of l.fragments
