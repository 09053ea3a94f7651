use Rattle.std.proofs.Common.{◌≡◌, ◌++◌, drop}
use Rattle.plan_checker.specs.Uses.{numbers_of}
use Rattle.plan_checker.proofs.uses.numbers_of.Given as goal

-- the numbers so far stand before those of the fragments that are left
abbrev pub invariant-loop-fragment : goal.invariant-loop-fragment
invariant-loop-fragment l = l.numbers ++ numbers_of (drop l.fragment-index l.fragments) ≡ numbers_of l.fragments
