use Rattle.std.proofs.Common.{◌≡◌, drop}
use Rattle.plan_checker.specs.Places.{atoms_in}
use Rattle.plan_checker.proofs.walking.atoms_in.Given as goal

-- none of the fragments so far has the number
abbrev pub invariant-loop-fragment : goal.invariant-loop-fragment
invariant-loop-fragment l = atoms_in (drop l.fragment-index l.finished) l.number ≡ atoms_in l.finished l.number
