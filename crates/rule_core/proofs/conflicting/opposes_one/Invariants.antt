use Rattle.std.proofs.Common.{◌≡◌, ℕ, ◌<◌, get_or}
use Rattle.rule_core.specs.Conflicts.{Opposes}
use Rattle.rule_reader.specs.declared.rule.Action.{Action}
use Rattle.rule_core.proofs.conflicting.opposes_one.Given as goal

-- none so far opposes the action
abbrev pub invariant-loop-other : goal.invariant-loop-other
invariant-loop-other l = (k : ℕ) (b : Action) → k < l.other-index → get_or l.others k b ≡ b → Opposes l.action b → ⊥
