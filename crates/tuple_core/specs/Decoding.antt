-- The row whose encoding bytes begin with.
use Rattle.std.specs.Prelude.{◌≡◌, ℕ, zero, suc, ◌==◌, ◌<◌, nat_le, Bool, true, false, ℤ, [], ◌∷◌, ◌++◌, length, slice_index, take, drop, Option, Some, None, option_map, option_and_then, Result, Ok, Err, if◌then◌else◌, ⊤}
use Rattle.std.specs.Int.{w32, w64, from_be_bytes, cast_signed}
use Rattle.std.specs.Str.{is_utf8}
use Rattle.med_prelude.specs.Texts.{Bytes}
use Rattle.tuple_core.specs.Encoding.{row_encoding, row_weight}
use Rattle.tuple_core.specs.Values.{FitsRow, RowValues, longest_text, most_values}
use Rattle.tuple_core.specs.declared.decoding.DecodeFault.{DecodeFault}
use Rattle.tuple_core.specs.declared.decoding.DecodeFault.TheVariants as fault
use Rattle.tuple_core.specs.declared.decoding.Unread.{Unread}
use Rattle.tuple_core.specs.declared.decoding.Unread.TheVariants as unread
use Rattle.tuple_core.specs.declared.value.Value.{Value}
use Rattle.tuple_core.specs.declared.value.Value.TheVariants as value

-- each number is that of a byte
pub record AreBytes (bytes : Bytes) : Type 0 where
  pub small : (i : ℕ) → slice_index bytes i < 256

-- the encoding of a row begins at the offset
abbrev pub BeginsAt : Bytes → ℕ → RowValues → Type 0
BeginsAt bytes at row = FitsRow row × ((rest : Bytes) × (drop at bytes ≡ row_encoding row ++ rest))

-- the fault tells the offset, at which no row's encoding begins, or that memory ran out
abbrev pub TellsBad : Bytes → ℕ → DecodeFault → Type 0
TellsBad bytes at (fault.Bad offset) = (offset ≡ at) × ((row : RowValues) → ¬ (BeginsAt bytes at row))
TellsBad bytes at fault.NoMemory = ⊤

-- nothing can be read, or memory ran out
abbrev pub RefusesReading : {X : Type 0} → Unread → Option X → Type 0
RefusesReading unread.Bad reading = None ≡ reading
RefusesReading unread.NoMemory reading = ⊤

-- the answer holds what is read, or refuses
abbrev pub GivesReading : {A X : Type 0} → (A → X) → Result A Unread → Option X → Type 0
GivesReading view (Ok a) reading = Some (view a) ≡ reading
GivesReading view (Err why) reading = RefusesReading why reading

infixl 10 ◌>>=◌
abbrev pub ◌>>=◌ : {A B : Type 0} → Option A → (A → Option B) → Option B
o >>= f = option_and_then f o

-- the first bytes, and the rest
unfoldable pub front_and_rest : ℕ → Bytes → Option (Bytes × Bytes)
front_and_rest count bytes = if nat_le count (length bytes) then Some (take count bytes, drop count bytes) else None

unfoldable pub integer_and_rest : Bytes → Option (ℤ × Bytes)
integer_and_rest bytes = do
  x ← front_and_rest 8 bytes
  Some (cast_signed w64 (from_be_bytes w64 x.0), x.1)

-- the bytes of a text that may or may not be UTF-8
unfoldable pub text_bytes_and_rest : Bytes → Option (Bytes × Bytes)
text_bytes_and_rest bytes = do
  x ← front_and_rest 4 bytes
  if nat_le (from_be_bytes w32 x.0) longest_text then front_and_rest (from_be_bytes w32 x.0) x.1 else None

unfoldable pub text_and_rest : Bytes → Option (Bytes × Bytes)
text_and_rest bytes = do
  x ← text_bytes_and_rest bytes
  if is_utf8 x.0 then Some x else None

unfoldable pub truth_and_rest : Bytes → Option (Bool × Bytes)
truth_and_rest [] = None
truth_and_rest (byte ∷ rest) = if byte == 0 then Some (false, rest) else (if byte == 1 then Some (true, rest) else None)

unfoldable pub value_and_rest : Bytes → Option (Value × Bytes)
value_and_rest [] = None
value_and_rest (kind ∷ bytes) =
    if kind == 1 then option_map (λ x. (value.Int x.0, x.1)) (integer_and_rest bytes)
    else (if kind == 2 then option_map (λ x. (value.Text x.0, x.1)) (text_and_rest bytes)
    else (if kind == 3 then option_map (λ x. (value.Bool x.0, x.1)) (truth_and_rest bytes)
    else None))

-- so many values, and the bytes after them
unfoldable pub values_and_rest : ℕ → Bytes → Option (RowValues × Bytes)
values_and_rest zero bytes = Some ([], bytes)
values_and_rest (suc count) bytes = do
  first ← value_and_rest bytes
  more ← values_and_rest count first.1
  Some (first.0 ∷ more.0, more.1)

unfoldable pub row_and_rest : Bytes → Option (RowValues × Bytes)
row_and_rest [] = None
row_and_rest (count ∷ bytes) = if nat_le count most_values then values_and_rest count bytes else None

-- the row whose encoding the bytes begin with, and the number of bytes that it takes
abbrev pub row_at : Bytes → Option (RowValues × ℕ)
row_at bytes = option_map (λ x. (x.0, row_weight x.0)) (row_and_rest bytes)

-- the answer is that row, unless memory ran out
abbrev pub GivesRow : Result (RowValues × ℕ) DecodeFault → Option (RowValues × ℕ) → Type 0
GivesRow (Ok read) reading = reading ≡ Some (read.0, row_weight read.0)
GivesRow (Err (fault.Bad offset)) reading = reading ≡ None
GivesRow (Err fault.NoMemory) reading = ⊤
