-- The bytes that stand for a row, and how many they are.
use Rattle.std.specs.Prelude.{ℕ, ◌+◌, ◌*◌, [], ◌∷◌, ◌++◌, length}
use Rattle.std.specs.Int.{w32, w64, to_be_bytes, cast_unsigned, from_bool}
use Rattle.std.specs.List.{flat_map, sum_by}
use Rattle.med_prelude.specs.Texts.{Bytes}
use Rattle.tuple_core.specs.Values.{RowValues, longest_text, most_values}
use Rattle.tuple_core.specs.declared.value.Value.{Value}
use Rattle.tuple_core.specs.declared.value.Value.TheVariants as value

-- A byte for the kind, and then an integer in two's complement, a text behind its length, or 0 or 1. The higher bytes of a number come first.
abbrev pub value_encoding : Value → Bytes
value_encoding (value.Int z) = 1 ∷ to_be_bytes w64 (cast_unsigned w64 z)
value_encoding (value.Text bytes) = 2 ∷ to_be_bytes w32 (length bytes) ++ bytes
value_encoding (value.Bool b) = 3 ∷ from_bool b ∷ []

-- a byte for the number of values, and then the values
abbrev pub row_encoding : RowValues → Bytes
row_encoding row = length row ∷ flat_map value_encoding row

-- how many bytes stand for a value
abbrev pub value_weight : Value → ℕ
value_weight (value.Int z) = 9
value_weight (value.Text bytes) = 5 + length bytes
value_weight (value.Bool b) = 2

-- how many bytes stand for a row
abbrev pub row_weight : RowValues → ℕ
row_weight row = 1 + sum_by value_weight row

-- no value weighs more than the longest text
abbrev pub greatest_value_weight : ℕ
greatest_value_weight = 5 + longest_text

-- no row weighs more: it has the most values, each as heavy as may be
abbrev pub greatest_weight : ℕ
greatest_weight = 1 + most_values * greatest_value_weight
