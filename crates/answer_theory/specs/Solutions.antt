-- Solutions: what is found when one row is taken of each leaf, in each way, and the rows that agree are kept.
use Rattle.std.specs.Prelude.{◌≡◌, ℕ, ◌==◌, Bool, true, cond, ◌&&◌, List, [], ◌∷◌, ◌++◌, map, flat_map, Option}
use Rattle.std.specs.List.{list_any}
use Rattle.answer_theory.specs.Bindings.{Binding, meet, consistent, has_entry, value_of, first_entries, glue}

-- the item where the test holds, and else nothing
abbrev pub only : {X : Type 0} → Bool → X → List X
only holds x = cond holds (x ∷ []) []

-- the entries of one row of each leaf, in each way; the last leaf turns fastest
abbrev pub combinations : {X : Type 0} → List (List (Binding X)) → List (Binding X)
combinations [] = [] ∷ []
combinations (leaf ∷ leaves) = flat_map (λ b. map (λ bs. b ++ bs) (combinations leaves)) leaf

-- the rows whose entries agree and that pass the test, each variable once
abbrev pub chosen_rows : {X : Type 0} → (X → X → Bool) → (Binding X → Bool) → List (Binding X) → List (Binding X)
chosen_rows joins test rows = flat_map (λ b. only (consistent joins b && test (first_entries b)) (first_entries b)) rows

-- the chosen ones among all ways to take one row of each leaf
abbrev pub solutions : {X : Type 0} → (X → X → Bool) → (Binding X → Bool) → List (List (Binding X)) → List (Binding X)
solutions joins test leaves = chosen_rows joins test (combinations leaves)

-- the rows glued of two rows that meet, where they pass the test
abbrev pub joined_rows : {X : Type 0} → (X → X → Bool) → (Binding X → Bool) → List (Binding X) → List (Binding X) → List (Binding X)
joined_rows joins test ls rs = flat_map (λ l. flat_map (λ r. only (meet joins l r && test (glue l r)) (glue l r)) rs) ls

-- whether the variable is one of these
abbrev pub names : List ℕ → ℕ → Bool
names vs v = list_any (λ w. w == v) vs

-- each of the variables has an entry in the row
abbrev pub Binds : {X : Type 0} → List ℕ → Binding X → Type 0
Binds vs b = (v : ℕ) → names vs v ≡ true → has_entry b v ≡ true

-- the test asks for the values of these variables alone
abbrev pub ReadsOnly : {X : Type 0} → List ℕ → (Binding X → Bool) → Type 0
ReadsOnly {X} vs test = (b c : Binding X) → ((v : ℕ) → names vs v ≡ true → value_of b v ≡ value_of c v) → test b ≡ test c

-- the test asks for the variables' values alone, and not for their entries
abbrev pub ReadsValues : {X : Type 0} → (Binding X → Bool) → Type 0
ReadsValues {X} test = (b c : Binding X) → ((v : ℕ) → value_of b v ≡ value_of c v) → test b ≡ test c

-- what each row says of each variable
abbrev pub valuations : {X : Type 0} → List (Binding X) → List (ℕ → Option X)
valuations rows = map value_of rows

-- the values of the variables
abbrev pub key : {X : Type 0} → List ℕ → Binding X → List (Option X)
key vs b = map (value_of b) vs

-- the key of each row: its head, where the variables are those of a head
abbrev pub keys : {X : Type 0} → List ℕ → List (Binding X) → List (List (Option X))
keys vs rows = map (key vs) rows
