-- The value that bytes spell as the text of a kind, or as a field of a column.
use Rattle.std.specs.Prelude.{ℕ, ◌+◌, ◌*◌, ◌-◌, ◌^◌, ◌==◌, ◌&&◌, nat_le, nat_lt, nat_eq, Bool, true, false, [], ◌∷◌, length, codes, ℤ, pos, neg_ℤ, Option, Some, None, option_map, fold, if◌then◌else◌}
use Rattle.std.specs.Char.{is_ascii_digit}
use Rattle.std.specs.Cmp.Lexicographic.{pointwise}
use Rattle.std.specs.List.{list_all}
use Rattle.std.specs.Str.{is_utf8}
use Rattle.med_prelude.specs.Texts.{Bytes}
use Rattle.tuple_core.specs.Values.{longest_text}
use Rattle.tuple_core.specs.declared.columns.Column.{Column}
use Rattle.tuple_core.specs.declared.columns.Kind.{Kind}
use Rattle.tuple_core.specs.declared.columns.Kind.TheVariants as kind
use Rattle.tuple_core.specs.declared.value.Value.{Value}
use Rattle.tuple_core.specs.declared.value.Value.TheVariants as value

-- the number that decimal digits write
abbrev pub digits_number : Bytes → ℕ
digits_number = fold (λ number digit. number * 10 + (digit - 48)) 0

-- one digit or more, which may begin with zeros, and whose number is at most so much
abbrev pub is_numeral : ℕ → Bytes → Bool
is_numeral most digits = nat_lt 0 (length digits) && (list_all is_ascii_digit digits && nat_le (digits_number digits) most)

-- the number of such digits
abbrev pub numeral : ℕ → Bytes → Option ℕ
numeral most digits = if is_numeral most digits then Some (digits_number digits) else None

-- an integer of 64 bits: a minus or nothing, and then digits, which may begin with zeros
abbrev pub parsed_integer : Bytes → Option ℤ
parsed_integer [] = None
parsed_integer (b ∷ bytes) =
    if b == 45 then option_map (λ n. neg_ℤ (pos n)) (numeral (2 ^ 63) bytes) else option_map pos (numeral (2 ^ 63 - 1) (b ∷ bytes))

-- one of the two words
abbrev pub parsed_truth : Bytes → Option Bool
parsed_truth bytes =
    if pointwise nat_eq bytes (codes "true") then Some true else (if pointwise nat_eq bytes (codes "false") then Some false else None)

-- UTF-8 of limited length, which spells itself
abbrev pub parsed_text : Bytes → Option Bytes
parsed_text bytes = if is_utf8 bytes && nat_le (length bytes) longest_text then Some bytes else None

abbrev pub parsed_value : Kind → Bytes → Option Value
parsed_value kind.Int bytes = option_map value.Int (parsed_integer bytes)
parsed_value kind.Text bytes = option_map value.Text (parsed_text bytes)
parsed_value kind.Bool bytes = option_map value.Bool (parsed_truth bytes)

-- the value that a field has in a column
abbrev pub field_value : Column → Bytes → Option Value
field_value column field = parsed_value column.kind field
