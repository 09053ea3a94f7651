-- The number of 128 bits that a row is sorted by first: where two rows' numbers differ, the rows stand as the numbers do.
use Rattle.std.specs.Prelude.{◌≡◌, ℕ, ◌+◌, ◌-◌, ◌*◌, ◌/◌, ◌^◌, ◌<◌, ◌++◌, nat_le, [], ◌∷◌, drop, Contains, FitsSigned, if◌then◌else◌, ℤ, negsuc, ◌-ℤ◌, unsigned_abs}
use Rattle.std.specs.Int.{w64, from_bool}
use Rattle.med_prelude.specs.Texts.{Bytes}
use Rattle.tuple_core.specs.Decoding.{AreBytes}
use Rattle.tuple_core.specs.Values.{RowList, RowValues, row_cmp}
use Rattle.tuple_core.specs.declared.value.Value.{Value}
use Rattle.tuple_core.specs.declared.value.Value.TheVariants as value

-- a digit of some bits, and behind it what follows, in a room of so many bits; what the room is too small for is cut off
unfoldable pub put_digit : ℕ → ℕ → (ℕ → ℕ) → ℕ → ℕ
put_digit bits d rest room = if nat_le bits room then d * 2 ^ (room - bits) + rest (room - bits) else d / 2 ^ (bits - room)

-- how far the integer is above the least one of 64 bits
unfoldable pub above_least : ℤ → ℕ
above_least z = unsigned_abs (z -ℤ negsuc (2 ^ 63 - 1))

-- nine bits for each byte plus one, and then nine zeros
unfoldable pub text_rank : Bytes → (ℕ → ℕ) → ℕ → ℕ
text_rank [] rest = put_digit 9 0 rest
text_rank (b ∷ bytes) rest = put_digit 9 (b + 1) (text_rank bytes rest)

-- two bits for the kind, and then the value
unfoldable pub value_rank : Value → (ℕ → ℕ) → ℕ → ℕ
value_rank (value.Int z) rest = put_digit 2 1 (put_digit 64 (above_least z) rest)
value_rank (value.Text bytes) rest = put_digit 2 2 (text_rank bytes rest)
value_rank (value.Bool b) rest = put_digit 2 3 (put_digit 1 (from_bool b) rest)

-- the values one behind another, and then zeros
unfoldable pub row_rank : RowValues → ℕ → ℕ
row_rank [] room = 0
row_rank (v ∷ row) room = value_rank v (row_rank row) room

-- an integer of 64 bits, bytes that may or may not be UTF-8, or a truth value
abbrev pub FitsRank : Value → Type 0
FitsRank (value.Int z) = FitsSigned w64 z
FitsRank (value.Text bytes) = AreBytes bytes
FitsRank (value.Bool b) = Unit {0}

-- the value without its first bytes, where it is a text
abbrev pub cut_value : ℕ → Value → Value
cut_value skip (value.Int z) = value.Int z
cut_value skip (value.Text bytes) = value.Text (drop skip bytes)
cut_value skip (value.Bool b) = value.Bool b

-- the row whose first value is cut
abbrev pub cut_row : ℕ → RowValues → RowValues
cut_row skip [] = []
cut_row skip (v ∷ row) = cut_value skip v ∷ row

-- cut rows stand as the rows do
abbrev pub CutsAlike : ℕ → RowList → Type 0
CutsAlike skip rows = (r s : RowValues) → Contains rows r → Contains rows s → row_cmp (cut_row skip r) (cut_row skip s) ≡ row_cmp r s

-- where the value is a text, it begins with these bytes
abbrev pub TextBegins : Bytes → Value → Type 0
TextBegins front (value.Int z) = Unit {0}
TextBegins front (value.Text bytes) = (rest : Bytes) × (bytes ≡ front ++ rest)
TextBegins front (value.Bool b) = Unit {0}

-- where the row's first value is a text, it begins with these bytes
abbrev pub FirstTextBegins : Bytes → RowValues → Type 0
FirstTextBegins front [] = Unit {0}
FirstTextBegins front (v ∷ row) = TextBegins front v

-- what follows is below 2 to the bits of its room
abbrev pub FitsRoom : (ℕ → ℕ) → Type 0
FitsRoom rest = (room : ℕ) → rest room < 2 ^ room

-- from one number with so many free bits to another, what was put stands before whatever follows
abbrev pub Puts : ((ℕ → ℕ) → ℕ → ℕ) → ℕ → ℕ → ℕ → ℕ → Type 0
Puts what number free after left = (rest : ℕ → ℕ) → FitsRoom rest → number + what rest free ≡ after + rest left
