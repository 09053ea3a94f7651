use Rattle.std.proofs.Common.{◌≡◌, ◌-◌, [], ◌∷◌}
use Rattle.plan_checker.specs.Filling.{left_deep}
use Rattle.plan_checker.proofs.filling.left_deep.Given as goal

-- so many atoms are joined
abbrev pub invariant-loop-join : goal.invariant-loop-join
invariant-loop-join l = l.trees ≡ left_deep (l.join - 1) ∷ []
