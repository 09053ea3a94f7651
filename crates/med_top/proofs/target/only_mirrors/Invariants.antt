use Rattle.std.proofs.Common.{◌≡◌, ◌++◌, drop, option_map}
use Rattle.med_top.specs.Targets.{only_mirrors}
use Rattle.med_top.proofs.target.only_mirrors.Given as goal

-- the locations so far stand before those of the groups that are left
abbrev pub invariant-loop-group : goal.invariant-loop-group
invariant-loop-group l = option_map (λ more. l.locations ++ more) (only_mirrors (drop l.group-index l.groups)) ≡ only_mirrors l.groups
