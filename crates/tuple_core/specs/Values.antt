-- Values and rows: their limits, their order and their texts.
use Rattle.std.specs.Prelude.{◌≤◌, ℕ, true, false, List, length, codes, FitsSigned}
use Rattle.std.specs.Cmp.Lexicographic.{slice_cmp}
use Rattle.std.specs.Fmt.{signed_decimal}
use Rattle.std.specs.Int.{w64}
use Rattle.std.specs.List.{AllByRecursion}
use Rattle.std.specs.Ordering.{nat_cmp, int_cmp, bool_cmp}
use Rattle.std.specs.declared.cmp.Ordering.{Ordering}
use Rattle.std.specs.declared.cmp.Ordering.TheVariants.{Less, Greater}
use Rattle.med_prelude.specs.Texts.{Bytes, IsText}
use Rattle.tuple_core.specs.declared.value.Value.{Value}
use Rattle.tuple_core.specs.declared.value.Value.TheVariants as value

-- a row: its values, in order
abbrev pub RowValues : Type 0
RowValues = List Value

-- rows, in order
abbrev pub RowList : Type 0
RowList = List RowValues

-- the most bytes of a text in a row
abbrev pub longest_text : ℕ
longest_text = 65536

-- the most values of a row
abbrev pub most_values : ℕ
most_values = 64

-- an integer of 64 bits, a text of limited length, or a truth value
abbrev pub FitsValue : Value → Type 0
FitsValue (value.Int z) = FitsSigned w64 z
FitsValue (value.Text bytes) = IsText bytes × (length bytes ≤ longest_text)
FitsValue (value.Bool b) = Unit {0}

-- a row has not too many values, each within its limits
pub record FitsRow (row : RowValues) : Type 0 where
  pub short : length row ≤ most_values
  pub each : AllByRecursion FitsValue row

-- integers by value, texts by bytes, false before true; of two kinds integers come first, and truth values last
abbrev pub value_cmp : Value → Value → Ordering
value_cmp (value.Int x) (value.Int y) = int_cmp x y
value_cmp (value.Int x) (value.Text y) = Less
value_cmp (value.Int x) (value.Bool y) = Less
value_cmp (value.Text x) (value.Int y) = Greater
value_cmp (value.Text x) (value.Text y) = slice_cmp nat_cmp x y
value_cmp (value.Text x) (value.Bool y) = Less
value_cmp (value.Bool x) (value.Int y) = Greater
value_cmp (value.Bool x) (value.Text y) = Greater
value_cmp (value.Bool x) (value.Bool y) = bool_cmp x y

-- rows compare value by value, and a proper prefix is less
abbrev pub row_cmp : RowValues → RowValues → Ordering
row_cmp = slice_cmp value_cmp

-- the shortest decimal text, the bytes of a text, or the word
abbrev pub value_text : Value → Bytes
value_text (value.Int z) = signed_decimal z
value_text (value.Text bytes) = bytes
value_text (value.Bool true) = codes "true"
value_text (value.Bool false) = codes "false"
