use Rattle.std.proofs.Common.{◌≡◌}
use Rattle.answer_theory.specs.Bags.{numbers_from}
use Rattle.plan_checker.proofs.uses.atom_numbers.Given as goal

-- the numbers so far
abbrev pub invariant-loop-index : goal.invariant-loop-index
invariant-loop-index l = l.numbers ≡ numbers_from 1 l.index
