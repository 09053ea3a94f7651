use Rattle.std.proofs.Common.{◌≡◌, drop}
use Rattle.plan_checker.specs.Uses.{misused_from}
use Rattle.plan_checker.proofs.misused.first_misused.Given as goal

-- all fragments so far are used as they are to be
abbrev pub invariant-loop-index : goal.invariant-loop-index
invariant-loop-index l = misused_from l.used l.index (drop l.index l.numbers) ≡ misused_from l.used 0 l.numbers
