use Rattle.std.proofs.Common.{◌≡◌, ◌+◌, ◌*◌, ◌≤◌, take}
use Rattle.tuple_core.specs.Encoding.{greatest_value_weight, row_weight}
use Rattle.tuple_core.proofs.encoding.weight.Given as goal

abbrev pub invariant-loop-value : goal.invariant-loop-value
invariant-loop-value l = record {
  weight : l.weight ≡ row_weight (take l.value-index l.value-items);
  bound : l.weight ≤ 1 + greatest_value_weight * l.value-index;
}
