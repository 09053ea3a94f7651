use Rattle.std.proofs.Common.{◌≡◌, ℕ, ◌||◌, drop}
use Rattle.answer_theory.specs.Solutions.{names}
use Rattle.plan_checker.proofs.unknown.set_of.Given as goal

-- the set has the numbers that aren't among those left
abbrev pub invariant-loop-number : goal.invariant-loop-number
invariant-loop-number l = (n : ℕ) → (names l.set.keys n || names (drop l.number-index l.numbers) n) ≡ names l.numbers n
