-- Lists of items, some of which couldn't be read, and names that stand twice.
use Rattle.std.specs.Prelude.{◌≡◌, ⊤, ℕ, ◌+◌, ◌||◌, is_none, Bool, true, false, List, [], ◌∷◌, ◌++◌, Option}
use Rattle.std.specs.List.{filter_map, list_any}
use Rattle.text_reading.specs.Faults.{broken_if, indices_where}

-- those that could be read
abbrev pub present : {A : Type 0} → List (Option A) → List A
present {A} items = filter_map (λ (item : Option A). item) items

-- the indices of those that couldn't
abbrev pub missing : {A : Type 0} → List (Option A) → List ℕ
missing items = indices_where is_none 0 items

module _ {K : Type 0} (same : K → K → Bool) where
  -- one of the names stands before it
  abbrev pub has_doubled : List K → List K → Bool
  has_doubled before [] = false
  has_doubled before (name ∷ names) = list_any (same name) before || has_doubled (before ++ name ∷ []) names

  -- the indices, from one on, of the items one of whose names stands before it
  abbrev pub doubled_after : List K → ℕ → List (List K) → List ℕ
  doubled_after before index [] = []
  doubled_after before index (names ∷ more) =
      broken_if (has_doubled before names) index ++ doubled_after (before ++ names) (index + 1) more

  -- the indices of the items one of whose names is that of an earlier item, or stands twice in the item
  abbrev pub doubled : List (List K) → List ℕ
  doubled lists = doubled_after [] 0 lists

-- where all names were put into a set, they stand behind those from before
abbrev pub AllPut : {K : Type 0} → Bool → List K → List K → List K → Type 0
AllPut true before names after = after ≡ before ++ names
AllPut false before names after = ⊤
