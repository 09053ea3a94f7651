use Rattle.std.proofs.Common.{◌≡◌, drop}
use Rattle.plan_checker.specs.Uses.{early_from}
use Rattle.plan_checker.proofs.misused.first_early.Given as goal

-- all fragments so far name those before them
abbrev pub invariant-loop-index : goal.invariant-loop-index
invariant-loop-index l = early_from l.numbers l.index (drop l.index l.fragments) ≡ early_from l.numbers 0 l.fragments
