-- Rows that are read in place, from their encodings.
use Rattle.std.specs.Prelude.{◌≡◌, ℕ, ◌==◌, Option, Some, None, [], ◌∷◌, length, option_map, if◌then◌else◌}
use Rattle.std.specs.List.{AllByRecursion, flat_map}
use Rattle.med_prelude.specs.Texts.{Bytes}
use Rattle.tuple_core.specs.Decoding.{integer_and_rest, row_and_rest, text_bytes_and_rest, truth_and_rest, values_and_rest}
use Rattle.tuple_core.specs.Encoding.{row_encoding, value_encoding}
use Rattle.tuple_core.specs.Values.{FitsRow, FitsValue, RowValues}
use Rattle.tuple_core.specs.declared.encoded.ValueRef.{ValueRef}
use Rattle.tuple_core.specs.declared.encoded.ValueRef.TheVariants as seen
use Rattle.tuple_core.specs.declared.value.Value.{Value}
use Rattle.tuple_core.specs.declared.value.Value.TheVariants as value

-- the values that were read, or none
abbrev pub values_read : Option (RowValues × Bytes) → RowValues
values_read None = []
values_read (Some read) = read.0

-- the row whose encoding the bytes begin with; of other bytes it is the row of no values
abbrev pub row_of : Bytes → RowValues
row_of bytes = values_read (row_and_rest bytes)

-- the bytes are a row's encoding, and no more
pub record IsEncoding (bytes : Bytes) : Type 0 where
  pub fits : FitsRow (row_of bytes)
  pub is : row_encoding (row_of bytes) ≡ bytes

-- the value that is seen in place
abbrev pub value_seen : ValueRef → Value
value_seen (seen.Int z) = value.Int z
value_seen (seen.Text bytes) = value.Text bytes.now
value_seen (seen.Bool b) = value.Bool b

-- so many values, whose encodings the bytes begin with
abbrev pub values_left : ℕ → Bytes → RowValues
values_left count bytes = values_read (values_and_rest count bytes)

-- the bytes are the encodings of so many values, and no more
pub record AreEncodings (count : ℕ) (bytes : Bytes) : Type 0 where
  pub many : length (values_left count bytes) ≡ count
  pub each : AllByRecursion FitsValue (values_left count bytes)
  pub are : flat_map value_encoding (values_left count bytes) ≡ bytes

-- the value that the bytes begin with, and the rest; the bytes of a text may or may not be UTF-8
unfoldable pub seen_and_rest : Bytes → Option (Value × Bytes)
seen_and_rest [] = None
seen_and_rest (kind ∷ bytes) =
    if kind == 1 then option_map (λ x. (value.Int x.0, x.1)) (integer_and_rest bytes)
    else (if kind == 2 then option_map (λ x. (value.Text x.0, x.1)) (text_bytes_and_rest bytes)
    else (if kind == 3 then option_map (λ x. (value.Bool x.0, x.1)) (truth_and_rest bytes)
    else None))
