-- The items of lists that break a check.
use Rattle.std.specs.Prelude.{ℕ, ◌+◌, nat_lt, Bool, List, [], ◌∷◌, ◌++◌, length, map, filter, slice_get, Some, None, if◌then◌else◌}

-- it, where it is broken
abbrev pub broken_if : {P : Type 0} → Bool → P → List P
broken_if is_broken at = if is_broken then at ∷ [] else []

-- the indices, from one on, of those that are broken
abbrev pub indices_where : {A : Type 0} → (A → Bool) → ℕ → List A → List ℕ
indices_where is_broken index [] = []
indices_where is_broken index (x ∷ xs) = broken_if (is_broken x) index ++ indices_where is_broken (index + 1) xs

-- where those stand that are broken
abbrev pub each_where : {A P : Type 0} → (A → Bool) → (A → P) → List A → List P
each_where is_broken at all = map at (filter is_broken all)

-- the index of the first one past the limit
abbrev pub index_past : {A : Type 0} → ℕ → List A → List ℕ
index_past limit all = broken_if (nat_lt limit (length all)) limit

-- where the first one past the limit stands
abbrev pub first_past : {A P : Type 0} → ℕ → (A → P) → List A → List P
first_past {A} {P} limit at all = elim (slice_get all limit) as (λ _. List P) [ None ↦ [] | Some x ↦ at x ∷ [] ]
