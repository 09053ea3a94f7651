-- What stands under names: the first of each name counts.
use Rattle.std.specs.Prelude.{ℕ, Bool, not, List, [], ◌∷◌, Option, option_map, filter}
use Rattle.std.specs.List.{find, list_any, position_or_len}
use Rattle.med_prelude.specs.Texts.{Bytes}
use Rattle.cat_reader.specs.Relations.{same_text}

-- the name is among those of the list
abbrev pub has_name : {V : Type 0} → List (Bytes × V) → Bytes → Bool
has_name all name = list_any (λ n. same_text name n.0) all

-- the first of each name
abbrev pub first_mentions : {V : Type 0} → List (Bytes × V) → List (Bytes × V)
first_mentions [] = []
first_mentions (n ∷ more) = n ∷ filter (λ other. not (same_text n.0 other.0)) (first_mentions more)

-- what stands first under the name
abbrev pub value_named : {V : Type 0} → List (Bytes × V) → Bytes → Option V
value_named all name = option_map (λ n. n.1) (find (λ n. same_text name n.0) all)

-- the number of the name, counted from 0; how many there are, where it isn't among them
abbrev pub number_named : {V : Type 0} → List (Bytes × V) → Bytes → ℕ
number_named all name = position_or_len (λ n. same_text name n.0) all
