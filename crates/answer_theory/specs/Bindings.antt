-- Bindings: what a row says of a query's variables. An entry is a variable, by its number, with the value that stands there.
-- A variable that stands several times in an atom, or in several atoms, has an entry for each.
use Rattle.std.specs.Prelude.{◌≡◌, ℕ, ◌==◌, Bool, true, not, cond, ◌&&◌, ◌||◌, List, [], ◌∷◌, ◌++◌, filter, Option, Some, None}
use Rattle.std.specs.List.{list_all, list_any}

abbrev pub Binding : Type 0 → Type 0
Binding X = List (ℕ × X)

-- What joins is equal. (A value may join with nothing, not even itself.)
abbrev pub IsSound : {X : Type 0} → (X → X → Bool) → Type 0
IsSound {X} joins = (x y : X) → joins x y ≡ true → x ≡ y

-- two entries of one variable have values that join
abbrev pub agree : {X : Type 0} → (X → X → Bool) → ℕ × X → ℕ × X → Bool
agree joins b c = not (b.0 == c.0) || joins b.1 c.1

-- each entry of the one agrees with each entry of the other: they have equal keys
abbrev pub meet : {X : Type 0} → (X → X → Bool) → Binding X → Binding X → Bool
meet joins bs cs = list_all (λ b. list_all (agree joins b) cs) bs

-- each two entries agree
abbrev pub consistent : {X : Type 0} → (X → X → Bool) → Binding X → Bool
consistent joins [] = true
consistent joins (b ∷ bs) = list_all (agree joins b) bs && consistent joins bs

-- whether the variable has an entry
abbrev pub has_entry : {X : Type 0} → Binding X → ℕ → Bool
has_entry bs v = list_any (λ b. b.0 == v) bs

-- the value at the variable's first entry
abbrev pub value_of : {X : Type 0} → Binding X → ℕ → Option X
value_of [] v = None
value_of (b ∷ bs) v = cond (b.0 == v) (Some b.1) (value_of bs v)

-- the first entry of each variable
abbrev pub first_entries : {X : Type 0} → Binding X → Binding X
first_entries [] = []
first_entries (b ∷ bs) = b ∷ filter (λ c. not (c.0 == b.0)) (first_entries bs)

-- the entries of the left, and then those of the right whose variables the left lacks
abbrev pub glue : {X : Type 0} → Binding X → Binding X → Binding X
glue bs cs = bs ++ filter (λ c. not (has_entry bs c.0)) cs
