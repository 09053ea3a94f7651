-- Rows put in their order, each once: the sorted list of the distinct rows, and the only one.
use Rattle.std.proofs.Common.{◌≡◌, zero, suc, List, [], ◌∷◌, Contains, ◌⊎◌, inl, inr, ⊎_elim, sym, ap, subst, ◌∙◌, refl, arith}
use Rattle.std.specs.List.{AllByRecursion}
use Rattle.std.specs.List.Sorted.{IsStrictlySortedBy}
use Rattle.std.specs.Ordering.{ordering_reverse, is_eq}
use Rattle.std.specs.declared.cmp.Ordering.{Ordering}
use Rattle.std.specs.declared.cmp.Ordering.TheVariants.{Less, Equal, Greater}
use Rattle.answer_theory.proofs.Sorted.{one_sorted}
use Rattle.tuple_core.specs.Distinct.{AreSortedDistinct}
use Rattle.tuple_core.specs.Order.{rows_decided, rows_tie, rows_total}
use Rattle.tuple_core.specs.Values.{RowList, RowValues, row_cmp}
use Rattle.query_core.specs.Answers.{rows_with, ordered_rows}

contains_first : {X : Type 0} (x : X) (xs : List X) → Contains (x ∷ xs) x
contains_first x xs = (0, omega arith, refl)

contains_same : {X : Type 0} (y x : X) (xs : List X) → y ≡ x → Contains (y ∷ xs) x
contains_same y x xs e = subst (Contains (y ∷ xs)) e (contains_first y xs)

contains_more : {X : Type 0} (y x : X) (xs : List X) → Contains xs x → Contains (y ∷ xs) x
contains_more y x xs h = (suc h.0, omega (arith, h.1), h.2)

contains_cases : {X : Type 0} (y x : X) (ys : List X) → Contains (y ∷ ys) x → (y ≡ x) ⊎ Contains ys x
contains_cases y x ys (zero, l, e) = inl e
contains_cases y x ys (suc k, l, e) = inr (k, omega (arith, l), e)

-- the rows with another before the first one, instead of it or behind it
abbrev placed : Ordering → RowValues → RowValues → RowList → RowList
placed o row other rows = elim o [ Less ↦ row ∷ other ∷ rows | Equal ↦ other ∷ rows | Greater ↦ other ∷ rows_with row rows ]

same : (row other : RowValues) → row_cmp row other ≡ Equal → row ≡ other
same row other e = (rows_decided row other).0 (rows_tie row other ∙ ap is_eq e)

each_rows_with : (P : RowValues → Type 0) (row : RowValues) (rows : RowList) → P row → AllByRecursion P rows → AllByRecursion P (rows_with row rows)
each_rows_with P row [] here all = (here, tt)
each_rows_with P row (other ∷ rows) here all = go (row_cmp row other) (each_rows_with P row rows here all.1)
  where
    go : (o : Ordering) → AllByRecursion P (rows_with row rows) → AllByRecursion P (placed o row other rows)
    go Less ih = (here, all)
    go Equal ih = all
    go Greater ih = (all.0, ih)

rows_with_sorted : (row : RowValues) (rows : RowList) → IsStrictlySortedBy row_cmp rows → IsStrictlySortedBy row_cmp (rows_with row rows)
unfolding IsStrictlySortedBy
rows_with_sorted row [] sorted = (tt, tt)
rows_with_sorted row (other ∷ rows) sorted = go (row_cmp row other) refl (rows_with_sorted row rows sorted.1)
  where
    below : (more : RowList) → row_cmp row other ≡ Less → AllByRecursion (λ r. row_cmp other r ≡ Less) more → AllByRecursion (λ r. row_cmp row r ≡ Less) more
    below [] less all = tt
    below (r ∷ more) less all = (rows_total.trans row other r less all.0, below more less all.1)

    go : (o : Ordering) → row_cmp row other ≡ o → IsStrictlySortedBy row_cmp (rows_with row rows) → IsStrictlySortedBy row_cmp (placed o row other rows)
    go Less e ih = ((e, below rows e sorted.0), sorted)
    go Equal e ih = sorted
    go Greater e ih = (each_rows_with (λ r. row_cmp other r ≡ Less) row rows (rows_total.antisymm other row ∙ ap ordering_reverse e) sorted.0, ih)

rows_with_keeps : (x row : RowValues) (rows : RowList) → Contains rows x → Contains (rows_with row rows) x
rows_with_keeps x row [] h = absurd (omega (arith, h.1))
rows_with_keeps x row (other ∷ rows) h = go (row_cmp row other) (rows_with_keeps x row rows)
  where
    go : (o : Ordering) → (Contains rows x → Contains (rows_with row rows) x) → Contains (placed o row other rows) x
    go Less ih = contains_more row x (other ∷ rows) h
    go Equal ih = h
    go Greater ih = ⊎_elim (λ e. contains_same other x (rows_with row rows) e) (λ i. contains_more other x (rows_with row rows) (ih i)) (contains_cases other x rows h)

rows_with_there : (row : RowValues) (rows : RowList) → Contains (rows_with row rows) row
rows_with_there row [] = contains_first row []
rows_with_there row (other ∷ rows) = go (row_cmp row other) refl (rows_with_there row rows)
  where
    go : (o : Ordering) → row_cmp row other ≡ o → Contains (rows_with row rows) row → Contains (placed o row other rows) row
    go Less e ih = contains_first row (other ∷ rows)
    go Equal e ih = contains_same other row rows (sym (same row other e))
    go Greater e ih = contains_more other row (rows_with row rows) ih

rows_with_adds_none : (x row : RowValues) (rows : RowList) → Contains (rows_with row rows) x → (row ≡ x) ⊎ Contains rows x
rows_with_adds_none x row [] h = contains_cases row x [] h
rows_with_adds_none x row (other ∷ rows) h = go (row_cmp row other) h (rows_with_adds_none x row rows)
  where
    go : (o : Ordering) → Contains (placed o row other rows) x → (Contains (rows_with row rows) x → (row ≡ x) ⊎ Contains rows x) → (row ≡ x) ⊎ Contains (other ∷ rows) x
    go Less k ih = contains_cases row x (other ∷ rows) k
    go Equal k ih = inr k
    go Greater k ih = ⊎_elim (λ e. inr (contains_same other x rows e)) (λ i. ⊎_elim (λ e. inl e) (λ j. inr (contains_more other x rows j)) (ih i)) (contains_cases other x (rows_with row rows) k)

pub ordered_sorted : (rows : RowList) → IsStrictlySortedBy row_cmp (ordered_rows rows)
unfolding IsStrictlySortedBy
ordered_sorted [] = tt
ordered_sorted (row ∷ rows) = rows_with_sorted row (ordered_rows rows) (ordered_sorted rows)

ordered_keeps : (rows : RowList) (x : RowValues) → Contains rows x → Contains (ordered_rows rows) x
ordered_keeps [] x h = h
ordered_keeps (row ∷ rows) x h = ⊎_elim
    (λ e. subst (Contains (rows_with row (ordered_rows rows))) e (rows_with_there row (ordered_rows rows)))
    (λ i. rows_with_keeps x row (ordered_rows rows) (ordered_keeps rows x i))
    (contains_cases row x rows h)

ordered_adds_none : (rows : RowList) (x : RowValues) → Contains (ordered_rows rows) x → Contains rows x
ordered_adds_none [] x h = h
ordered_adds_none (row ∷ rows) x h = ⊎_elim
    (λ e. contains_same row x rows e)
    (λ i. contains_more row x rows (ordered_adds_none rows x i))
    (rows_with_adds_none x row (ordered_rows rows) h)

-- the rows in order are the distinct rows, sorted
pub sorted_rows : (rows : RowList) → AreSortedDistinct rows (ordered_rows rows)
sorted_rows rows = record { ascending = ordered_sorted rows; keeps = ordered_keeps rows; adds_none = ordered_adds_none rows }

-- and no other list is
pub only_sorted_rows : (rows sorted : RowList) → AreSortedDistinct rows sorted → sorted ≡ ordered_rows rows
only_sorted_rows rows sorted h = one_sorted row_cmp rows_total sorted (ordered_rows rows) h.ascending (ordered_sorted rows)
    (λ x i. ordered_keeps rows x (h.adds_none x i))
    (λ x i. h.keeps x (ordered_adds_none rows x i))
