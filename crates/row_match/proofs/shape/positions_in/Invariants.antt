use Rattle.std.proofs.Common.{◌≡◌, take}
use Rattle.row_match.specs.Shapes.{positions_in}
use Rattle.row_match.proofs.shape.positions_in.Given as goal

abbrev pub invariant-loop-variable : goal.invariant-loop-variable
invariant-loop-variable l = l.positions.items ≡ positions_in l.variables (take l.variable-index l.wanted)
