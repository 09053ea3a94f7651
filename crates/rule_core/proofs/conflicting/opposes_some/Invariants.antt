use Rattle.std.proofs.Common.{◌≡◌, ℕ, ◌<◌, get_or}
use Rattle.rule_core.specs.Conflicts.{OpposesOne}
use Rattle.rule_reader.specs.declared.rule.Action.{Action}
use Rattle.rule_core.proofs.conflicting.opposes_some.Given as goal

-- none so far opposes another
abbrev pub invariant-loop-action : goal.invariant-loop-action
invariant-loop-action l = (k : ℕ) (a : Action) → k < l.action-index → get_or l.actions k a ≡ a → OpposesOne a l.others → ⊥
