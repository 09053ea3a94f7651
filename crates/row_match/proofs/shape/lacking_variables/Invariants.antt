use Rattle.std.proofs.Common.{◌≡◌, take}
use Rattle.row_match.specs.Shapes.{lacking_variables}
use Rattle.row_match.proofs.shape.lacking_variables.Given as goal

abbrev pub invariant-loop-variable : goal.invariant-loop-variable
invariant-loop-variable l = l.chosen.items ≡ lacking_variables l.left (take l.variable-index l.right)
