use Rattle.std.proofs.Common.{◌≡◌}
use Rattle.rule_reader.specs.Machine.{negated}
use Rattle.rule_reader.proofs.nesting.negated.Given as goal

-- so many `not` stand before the condition
abbrev pub invariant-loop : goal.invariant-loop
invariant-loop l = l.condition ≡ negated l.counter l.fn.condition
