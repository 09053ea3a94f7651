use Rattle.std.proofs.Common.{◌≡◌, ◌++◌}
use Rattle.plan_checker.proofs.places.sites.Given as goal

-- the joins so far stand behind the atoms
abbrev pub invariant-loop-site : goal.invariant-loop-site
invariant-loop-site l = l.found ≡ l.initial.found ++ l.yielded
