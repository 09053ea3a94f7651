use Rattle.std.proofs.Common.{◌≡◌, ◌++◌}
use Rattle.med_top.proofs.atoms.append.Given as goal

abbrev pub invariant-loop-member : goal.invariant-loop-member
invariant-loop-member g l = l.members ≡ l.fn.members ++ l.yielded
