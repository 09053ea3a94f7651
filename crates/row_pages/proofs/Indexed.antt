-- A sorted index of rows tells the rows in their order, each once.
use Rattle.std.proofs.Common.{◌≡◌, ◌+◌, ◌<◌, Bool, true, false, List, [], ◌∷◌, ◌++◌, length, map, get_or, slice_get, Some, IfOk, Result, Ok, Err, ℕ, take, drop, cond, refl, sym, ap, ap₂, subst, ◌∙◌, arith, append_assoc, All, Contains}
use Rattle.std.specs.List.{AllByRecursion, dedup, dedup_from}
use Rattle.std.specs.List.Sorted.{IsPermutation, IsSorted}
use Rattle.std.specs.Ordering.{is_eq, is_lt, nat_cmp, ordering_then}
use Rattle.std.specs.declared.cmp.Ordering.{Ordering}
use Rattle.std.proofs.lemmas.List.{get_or-map, length-map, map-append, take-append-drop, take_more}
use Rattle.std.proofs.lemmas.List.Elements.{All-from_recursion, All-push, All-same, recursion_from_All}
use Rattle.std.proofs.lemmas.Option.{get_or_from_slice_get, slice_get-get_or}
use Rattle.std.proofs.lemmas.List.Kept.{Contains-dedup, Contains-from_dedup, IsStrictlySortedBy-dedup}
use Rattle.std.proofs.lemmas.List.Sorted.{All-permutation, Contains-permutation, IsPermutation-map, IsPermutation-sym}
use Rattle.med_prelude.specs.Texts.{Bytes}
use Rattle.row_pages.specs.Sorting.{IsEntry, entries_tie, entry_cmp, entry_eq}
use Rattle.row_pages.specs.declared.sorting.Entry.{Entry}
use Rattle.tuple_core.proofs.Ranks.{cut_alike, cut_ranks_first}
use Rattle.tuple_core.specs.Distinct.{AreSortedDistinct}
use Rattle.tuple_core.specs.Order.{row_eq, rows_decided, rows_equiv, rows_tie, rows_total}
use Rattle.tuple_core.specs.Ranks.{CutsAlike, FirstTextBegins, TextBegins}
use Rattle.tuple_core.specs.Values.{RowList, RowValues, row_cmp}
use Rattle.tuple_core.specs.declared.value.Value.{Value}
use Rattle.tuple_core.specs.declared.value.Value.TheVariants as value

-- the rest of a text behind one that it begins with
pub rest_behind : (text front shared : Bytes) (x y : Bytes) → text ≡ front ++ x → front ≡ shared ++ y → text ≡ shared ++ (y ++ x)
rest_behind text front shared x y e f = e ∙ ap (λ bs. bs ++ x) f ∙ append_assoc shared y x

shorter_text : (front shared : Bytes) (rest : Bytes) (v : Value) → front ≡ shared ++ rest → TextBegins front v → TextBegins shared v
shorter_text front shared rest (value.Int z) e h = tt
shorter_text front shared rest (value.Text bytes) e h = (rest ++ h.0, rest_behind bytes front shared h.0 rest h.1 e)
shorter_text front shared rest (value.Bool b) e h = tt

-- what begins with some bytes begins with fewer
pub shorter_begins : (front shared : Bytes) (rest : Bytes) (row : RowValues) → front ≡ shared ++ rest → FirstTextBegins front row → FirstTextBegins shared row
shorter_begins front shared rest [] e h = tt
shorter_begins front shared rest (v ∷ row) e h = shorter_text front shared rest v e h

nothing_begins : (row : RowValues) → FirstTextBegins [] row
nothing_begins [] = tt
nothing_begins (value.Int z ∷ row) = tt
nothing_begins (value.Text bytes ∷ row) = (bytes, refl)
nothing_begins (value.Bool b ∷ row) = tt

-- rows that begin with shared bytes may be cut
pub shared_cuts : (front : Bytes) (rows : RowList) → ((k : ℕ) → k < length rows → FirstTextBegins front (get_or rows k [])) → CutsAlike (length front) rows
shared_cuts front rows each = λ r s r_in s_in. cut_alike front r s (of r r_in) (of s s_in)
  where
    of : (row : RowValues) → Contains rows row → FirstTextBegins front row
    of row there =
        let e : get_or rows there.0 [] ≡ row = get_or_from_slice_get rows there.0 row [] (slice_get-get_or rows there.0 row there.1 ∙ ap Some there.2) in
        subst (FirstTextBegins front) e (each there.0 there.1)

-- and rows that aren't cut stand as they do
pub uncut : (rows : RowList) → CutsAlike 0 rows
uncut rows = λ r s r_in s_in. cut_alike [] r s (nothing_begins r) (nothing_begins s)

-- entries stand as their rows do
entries_alike : (skip : ℕ) (rows : RowList) → CutsAlike skip rows → (x y : Entry) → IsEntry skip rows x → IsEntry skip rows y → entry_cmp x y ≡ row_cmp x.row y.row
entries_alike skip rows cuts x y x_is y_is =
    ap₂ (λ m n. ordering_then (nat_cmp m n) (row_cmp x.row y.row)) x_is.rank y_is.rank
    ∙ cut_ranks_first skip x.row y.row x_is.fits y_is.fits (cuts x.row y.row (there x x_is) (there y y_is))
  where
    there : (entry : Entry) → IsEntry skip rows entry → Contains rows entry.row
    there entry is =
        let e : get_or rows entry.index entry.row ≡ entry.row = get_or_from_slice_get rows entry.index entry.row entry.row (slice_get-get_or rows entry.index [] is.inside ∙ ap Some is.row) in
        (entry.index, is.inside, e)

entries_same : (skip : ℕ) (rows : RowList) → CutsAlike skip rows → (x y : Entry) → IsEntry skip rows x → IsEntry skip rows y → entry_eq x y ≡ row_eq x.row y.row
entries_same skip rows cuts x y x_is y_is = entries_tie x y ∙ ap is_eq (entries_alike skip rows cuts x y x_is y_is) ∙ sym (rows_tie x.row y.row)

-- a list in order by one order is in order by another that stands as the first does
sorted_alike : {X Y : Type 0} (R : X → X → Ordering) (S : Y → Y → Ordering) (f : X → Y) (P : X → Type 0) → ((x y : X) → P x → P y → R x y ≡ S (f x) (f y))
    → (xs : List X) → All P xs → IsSorted R xs → IsSorted S (map f xs)
sorted_alike R S f P alike [] all sorted = λ k d low high. absurd (omega arith)
sorted_alike R S f P alike (x ∷ xs) all sorted = λ k d low high.
    let more : k + 1 < length (x ∷ xs) = omega (arith, length-map (x ∷ xs) f) in
    let here : k < length (x ∷ xs) = omega arith in
    ap₂ (λ a b. is_lt (S a b)) (get_or-map f (x ∷ xs) (k + 1) x d more) (get_or-map f (x ∷ xs) k x d here)
    ∙ ap is_lt (sym (alike (get_or (x ∷ xs) (k + 1) x) (get_or (x ∷ xs) k x) (all (k + 1) x more) (all k x here)))
    ∙ sorted k x low more

module _ {X Y : Type 0} (E : X → X → Bool) (F : Y → Y → Bool) (f : X → Y) (P : X → Type 0) (alike : (x y : X) → P x → P y → E x y ≡ F (f x) (f y)) where
  map_dedup_from : (x : X) (xs : List X) → P x → AllByRecursion P xs → map f (dedup_from E x xs) ≡ dedup_from F (f x) (map f xs)
  map_dedup_from x [] h all = refl
  map_dedup_from x (y ∷ xs) h all = go (map_dedup_from x xs h all.1) (map_dedup_from y xs all.0 all.1) (E y x) refl
    where
      go : map f (dedup_from E x xs) ≡ dedup_from F (f x) (map f xs) → map f (dedup_from E y xs) ≡ dedup_from F (f y) (map f xs) → (t : Bool) → E y x ≡ t → map f (cond t (dedup_from E x xs) (x ∷ dedup_from E y xs)) ≡ cond (F (f y) (f x)) (dedup_from F (f x) (map f xs)) (f x ∷ dedup_from F (f y) (map f xs))
      go before after true e =
          let same : F (f y) (f x) ≡ true = sym (alike y x all.0 h) ∙ e in
          rw same before
      go before after false e =
          let apart : F (f y) (f x) ≡ false = sym (alike y x all.0 h) ∙ e in
          rw apart (ap (λ ys. f x ∷ ys) after)

  -- repeats go before or after
  map_dedup : (xs : List X) → AllByRecursion P xs → map f (dedup E xs) ≡ dedup F (map f xs)
  map_dedup [] all = refl
  map_dedup (x ∷ xs) all = map_dedup_from x xs all.0 all.1

module _ {X : Type 0} (E : X → X → Bool) (P : X → Type 0) where
  all_dedup_from : (x : X) (xs : List X) → P x → AllByRecursion P xs → AllByRecursion P (dedup_from E x xs)
  all_dedup_from x [] h all = (h, tt)
  all_dedup_from x (y ∷ xs) h all = go (all_dedup_from x xs h all.1) (all_dedup_from y xs all.0 all.1) (E y x)
    where
      go : AllByRecursion P (dedup_from E x xs) → AllByRecursion P (dedup_from E y xs) → (t : Bool) → AllByRecursion P (cond t (dedup_from E x xs) (x ∷ dedup_from E y xs))
      go before after true = before
      go before after false = (h, after)

  all_dedup : (xs : List X) → AllByRecursion P xs → AllByRecursion P (dedup E xs)
  all_dedup [] all = tt
  all_dedup (x ∷ xs) all = all_dedup_from x xs all.0 all.1

-- the rows of entries are those at their indices
pub rows_at : (skip : ℕ) (rows : RowList) (entries : List Entry) → AllByRecursion (IsEntry skip rows) entries
    → map (λ index. get_or rows index []) (map (λ (e : Entry). e.index) entries) ≡ map (λ (e : Entry). e.row) entries
rows_at skip rows [] all = refl
rows_at skip rows (e ∷ entries) all = ap₂ (λ r rs. r ∷ rs) all.0.row (rows_at skip rows entries all.1)

pub indices_inside : (skip : ℕ) (rows : RowList) (entries : List Entry) → AllByRecursion (IsEntry skip rows) entries → All (λ index. index < length rows) (map (λ (e : Entry). e.index) entries)
indices_inside skip rows entries all = All-from_recursion (λ index. index < length rows) _ (inside entries all)
  where
    inside : (es : List Entry) → AllByRecursion (IsEntry skip rows) es → AllByRecursion (λ index. index < length rows) (map (λ (e : Entry). e.index) es)
    inside [] all = tt
    inside (e ∷ es) all = (all.0.inside, inside es all.1)

-- what is left of the sorted entries
pub record AreTold (skip : ℕ) (rows : RowList) (left : List Entry) : Type 0 where
  pub each : AllByRecursion (IsEntry skip rows) left
  pub sorted : AreSortedDistinct rows (map (λ (e : Entry). e.row) left)

pub told : (skip : ℕ) (rows : RowList) (entries sorted : List Entry) → CutsAlike skip rows → map (λ (e : Entry). e.row) entries ≡ rows → All (IsEntry skip rows) entries
    → IsPermutation entries sorted → IsSorted entry_cmp sorted → AreTold skip rows (dedup entry_eq sorted)
told skip rows entries sorted cuts whole all moved up = record {
  each = all_dedup entry_eq (IsEntry skip rows) sorted each;
  sorted = subst (AreSortedDistinct rows) (sym (map_dedup entry_eq row_eq (λ (e : Entry). e.row) (IsEntry skip rows) (entries_same skip rows cuts) sorted each)) distinct;
}
  where
    all_sorted : All (IsEntry skip rows) sorted
    all_sorted = All-permutation (IsEntry skip rows) entries sorted moved all

    each : AllByRecursion (IsEntry skip rows) sorted
    each = recursion_from_All (IsEntry skip rows) sorted all_sorted

    permuted : IsPermutation rows (map (λ (e : Entry). e.row) sorted)
    permuted = subst (λ rs. IsPermutation rs (map (λ (e : Entry). e.row) sorted)) whole (IsPermutation-map (λ (e : Entry). e.row) entries sorted moved)

    rows_up : IsSorted row_cmp (map (λ (e : Entry). e.row) sorted)
    rows_up = sorted_alike entry_cmp row_cmp (λ (e : Entry). e.row) (IsEntry skip rows) (entries_alike skip rows cuts) sorted all_sorted up

    distinct : AreSortedDistinct rows (dedup row_eq (map (λ (e : Entry). e.row) sorted))
    distinct = record {
      ascending = IsStrictlySortedBy-dedup rows_total rows_tie (map (λ (e : Entry). e.row) sorted) rows_up;
      keeps = λ row h. Contains-dedup rows_equiv (λ x y. (rows_decided x y).0) (map (λ (e : Entry). e.row) sorted) row (Contains-permutation rows (map (λ (e : Entry). e.row) sorted) row permuted h);
      adds_none = λ row h. Contains-permutation (map (λ (e : Entry). e.row) sorted) rows row (IsPermutation-sym rows (map (λ (e : Entry). e.row) sorted) permuted) (Contains-from_dedup row_eq (map (λ (e : Entry). e.row) sorted) row h);
    }

-- ---- what the loops and the calls keep

-- what both begin with
pub both_begin : (n : ℕ) (x y front : Bytes) → front ≡ take n x → take n x ≡ take n y → (rest : Bytes) × (y ≡ front ++ rest)
both_begin n x y front e same = (drop n y, sym (take-append-drop n y) ∙ ap (λ bs. bs ++ drop n y) (sym (e ∙ same)))

-- a row at an index
pub row_at_index : (rows : RowList) (k : ℕ) (row : RowValues) → Some row ≡ slice_get rows k → get_or rows k [] ≡ row
row_at_index rows k row e = get_or_from_slice_get rows k row [] (sym e)

-- one more row is entered
pub rows_more : (rows : RowList) (old new : List Entry) (k : ℕ) (e : Entry) → k < length rows → new ≡ old ++ e ∷ [] → map (λ (e : Entry). e.row) old ≡ take k rows → get_or rows k [] ≡ e.row
    → map (λ (e : Entry). e.row) new ≡ take (k + 1) rows
rows_more rows old new k e inside pushed before here =
    ap (λ es. map (λ (e : Entry). e.row) es) pushed
    ∙ map-append (λ (e : Entry). e.row) old (e ∷ [])
    ∙ ap₂ (λ rs r. rs ++ r ∷ []) before (sym here)
    ∙ sym (take_more rows k [] inside)

pub each_more : (skip : ℕ) (rows : RowList) (old new : List Entry) (e : Entry) → new ≡ old ++ e ∷ [] → All (IsEntry skip rows) old → IsEntry skip rows e → All (IsEntry skip rows) new
each_more skip rows old new e pushed before one = All-same (IsEntry skip rows) new (old ++ e ∷ []) pushed (All-push (IsEntry skip rows) old e before one)

pub if_ok : {T E : Type 0} {P Q : T → Type 0} (answer : Result T E) → ((x : T) → P x → Q x) → IfOk answer P → IfOk answer Q
if_ok (Ok x) f h = f x h
if_ok (Err e) f h = tt
