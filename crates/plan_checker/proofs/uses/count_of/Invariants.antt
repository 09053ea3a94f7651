use Rattle.std.proofs.Common.{◌≡◌, ◌+◌, ◌≤◌, drop}
use Rattle.answer_theory.specs.Bags.{count_of}
use Rattle.plan_checker.proofs.uses.count_of.Given as goal

-- the count so far, with that of the numbers that are left
abbrev pub invariant-loop-other : goal.invariant-loop-other
invariant-loop-other l = record {
  small : l.count ≤ l.other-index;
  same : l.count + count_of l.number (drop l.other-index l.numbers) ≡ count_of l.number l.numbers;
}
