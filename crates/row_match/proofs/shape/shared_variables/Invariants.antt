use Rattle.std.proofs.Common.{◌≡◌, take}
use Rattle.answer_theory.specs.Rows.{shared_variables}
use Rattle.row_match.proofs.shape.shared_variables.Given as goal

abbrev pub invariant-loop-variable : goal.invariant-loop-variable
invariant-loop-variable l = l.chosen.items ≡ shared_variables (take l.variable-index l.left) l.right
