-- What a name is: in a catalogue, a query and a plan alike.
use Rattle.std.specs.Prelude.{ℕ, nat_le, ◌==◌, ◌&&◌, ◌||◌, not, Bool, false, List, [], ◌∷◌, nat_eq, codes}
use Rattle.std.specs.List.{list_all}
use Rattle.std.specs.Cmp.Lexicographic.{pointwise}
use Rattle.med_prelude.specs.Texts.{Bytes}

-- an ASCII letter
unfoldable pub starts_name : ℕ → Bool
starts_name b = (nat_le 65 b && nat_le b 90) || (nat_le 97 b && nat_le b 122)

-- a letter, a digit or `_`
unfoldable pub continues_name : ℕ → Bool
continues_name b = starts_name b || (nat_le 48 b && nat_le b 57) || (b == 95)

-- a letter and then letters, digits or `_`
abbrev pub spells_name : Bytes → Bool
spells_name [] = false
spells_name (b ∷ bytes) = starts_name b && list_all continues_name bytes

unfoldable pub is_truth_word : Bytes → Bool
is_truth_word bytes = pointwise nat_eq bytes (codes "true") || pointwise nat_eq bytes (codes "false")

-- a name of any length: the two truth values are none
abbrev pub is_name : Bytes → Bool
is_name bytes = spells_name bytes && not (is_truth_word bytes)
