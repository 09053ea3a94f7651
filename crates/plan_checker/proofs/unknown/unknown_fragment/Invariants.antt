use Rattle.std.proofs.Common.{◌≡◌, drop}
use Rattle.std.specs.Prelude.{position}
use Rattle.std.specs.List.{position_from}
use Rattle.plan_checker.specs.Uses.{names_unknown}
use Rattle.plan_checker.proofs.unknown.unknown_fragment.Given as goal

-- all fragments so far name what is there
abbrev pub invariant-loop-index : goal.invariant-loop-index
invariant-loop-index l = position_from (names_unknown l.atoms l.numbers) l.index (drop l.index l.fragments) ≡ position (names_unknown l.atoms l.numbers) l.fragments
