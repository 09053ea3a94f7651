-- Choices: one index of each list, in each way.
use Rattle.std.specs.Prelude.{ℕ, Bool, ◌&&◌, List, [], ◌∷◌, ◌++◌, map, filter, flat_map, length, slice_get}
use Rattle.std.specs.List.{list_all, cons_option}
use Rattle.answer_theory.specs.Bags.{numbers_from}
use Rattle.answer_theory.specs.Bindings.{Binding, consistent, first_entries}
use Rattle.answer_theory.specs.Solutions.{only, combinations, chosen_rows}

-- the indices of a list: 0, 1 and so on
abbrev pub indices : {Y : Type 0} → List Y → List ℕ
indices ys = numbers_from 0 (length ys)

-- one index of each list, in each way; the last list turns fastest
abbrev pub index_lists : {Y : Type 0} → List (List Y) → List (List ℕ)
index_lists [] = [] ∷ []
index_lists (ys ∷ lists) = flat_map (λ k. map (λ ks. k ∷ ks) (index_lists lists)) (indices ys)

-- the items that stand at the indices
abbrev pub items_at : {Y : Type 0} → List (List Y) → List ℕ → List Y
items_at [] ks = []
items_at (ys ∷ lists) [] = []
items_at (ys ∷ lists) (k ∷ ks) = cons_option (slice_get ys k) (items_at lists ks)

-- one item of each list, in each way
abbrev pub picks : {Y : Type 0} → List (List Y) → List (List Y)
picks [] = [] ∷ []
picks (ys ∷ lists) = flat_map (λ y. map (λ items. y ∷ items) (picks lists)) ys

-- the rows of a leaf: what the items that fit bind
abbrev pub fitting_rows : {X Y : Type 0} → (Y → Bool) → (Y → Binding X) → List Y → List (Binding X)
fitting_rows fits binding ys = flat_map (λ y. only (fits y) (binding y)) ys

-- the items fit, what they bind agrees, and its values pass the test
abbrev pub items_agree : {X Y : Type 0} → (X → X → Bool) → (Y → Bool) → (Y → Binding X) → (Binding X → Bool) → List Y → Bool
items_agree joins fits binding test items = list_all fits items && (consistent joins (flat_map binding items) && test (first_entries (flat_map binding items)))

-- the lists of indices, one of each list, whose items agree
abbrev pub choices : {X Y : Type 0} → (X → X → Bool) → (Y → Bool) → (Y → Binding X) → (Binding X → Bool) → List (List Y) → List (List ℕ)
choices joins fits binding test lists = filter (λ ks. items_agree joins fits binding test (items_at lists ks)) (index_lists lists)

-- the solutions that begin with entries that are bound already: what is left of a walk by nested choice
abbrev pub solutions_from : {X Y : Type 0} → (X → X → Bool) → (Y → Bool) → (Y → Binding X) → (Binding X → Bool) → Binding X → List (List Y) → List (Binding X)
solutions_from joins fits binding test b lists = chosen_rows joins test (map (λ bs. b ++ bs) (combinations (map (fitting_rows fits binding) lists)))
