use Rattle.std.proofs.Common.{◌≡◌, ◌++◌, drop, option_map}
use Rattle.med_top.specs.Targets.{targets_for}
use Rattle.med_top.proofs.target.targets_for.Given as goal

-- the targets so far stand before those of the atoms that are left
abbrev pub invariant-loop-atom : goal.invariant-loop-atom
invariant-loop-atom l = option_map (λ more. l.targets ++ more) (targets_for l.relations (drop l.atom-index l.atoms)) ≡ targets_for l.relations l.atoms
