use Rattle.std.proofs.Common.{◌≡◌, ◌+◌, ◌*◌, ◌≤◌, ◌∷◌, length, take, slice_get, vec_len, vec_capacity}
use Rattle.std.specs.List.{filter_map, flat_map}
use Rattle.tuple_core.specs.Encoding.{greatest_value_weight, greatest_weight, value_encoding}
use Rattle.tuple_core.proofs.keys.fill.Given as goal

abbrev pub invariant-loop-position : goal.invariant-loop-position
invariant-loop-position l = record {
  items : l.bytes.items ≡ length l.positions ∷ flat_map value_encoding (filter_map (slice_get l.row) (take l.position-index l.positions));
  len : vec_len l.bytes ≤ 1 + greatest_value_weight * l.position-index;
  capacity : greatest_weight ≤ vec_capacity l.bytes;
}
