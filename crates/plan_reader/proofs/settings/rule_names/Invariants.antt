use Rattle.std.proofs.Common.{◌≡◌, map, take, Bor, List, ℕ}
use Rattle.plan_reader.specs.Settings.{rule_names}
use Rattle.plan_reader.proofs.settings.rule_names.Given as goal

-- the names of those so far
abbrev pub invariant-loop-rule : goal.invariant-loop-rule
invariant-loop-rule l = map (map (λ (n : Bor (List ℕ)). n.now)) l.names ≡ map rule_names (take l.rule-index l.rules)
