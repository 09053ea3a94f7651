-- Text, and bytes that may or may not be told.
use Rattle.std.specs.Prelude.{◌≡◌, true, ℕ, List, ◌++◌, Option, Some, IfSome, option_map}
use Rattle.std.specs.Str.{is_utf8}

-- bytes, each by its number
abbrev pub Bytes : Type 0
Bytes = List ℕ

-- bytes that a contract knows, or none where their object doesn't tell them
abbrev pub ToldBytes : Type 0
ToldBytes = Option Bytes

-- the bytes are UTF-8
abbrev pub IsText : Bytes → Type 0
IsText bytes = is_utf8 bytes ≡ true

-- told bytes with more after them
abbrev pub told_with : ToldBytes → Bytes → ToldBytes
told_with told more = option_map (λ bytes. bytes ++ more) told

-- the bytes are the first of the text
abbrev pub IsPrefix : Bytes → Bytes → Type 0
IsPrefix bytes text = (rest : Bytes) × (bytes ++ rest ≡ text)

-- what holds of two texts where both are told
abbrev pub IfBothTold : ToldBytes → ToldBytes → (Bytes → Bytes → Type 0) → Type 0
IfBothTold a b fact = IfSome a (λ x. IfSome b (λ y. fact x y))

-- all of a text was taken, where the taken bytes are told
abbrev pub IsWhole : ToldBytes → ToldBytes → Type 0
IsWhole taken whole = IfSome taken (λ bytes. whole ≡ Some bytes)
