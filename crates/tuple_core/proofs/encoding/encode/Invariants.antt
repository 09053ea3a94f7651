use Rattle.std.proofs.Common.{◌≡◌, ◌+◌, ◌≤◌, ◌∷◌, ◌++◌, length, take, vec_len, vec_capacity}
use Rattle.std.specs.List.{flat_map}
use Rattle.tuple_core.specs.Encoding.{row_weight, value_encoding}
use Rattle.tuple_core.proofs.encoding.encode.Given as goal

abbrev pub invariant-loop-value : goal.invariant-loop-value
invariant-loop-value l = record {
  items : l.into.items ≡ l.fn.into.items ++ length l.values ∷ flat_map value_encoding (take l.value-index l.values);
  room : vec_len l.into + row_weight l.values ≤ vec_capacity l.into + row_weight (take l.value-index l.values);
  capacity : vec_capacity l.fn.into ≤ vec_capacity l.into;
}
