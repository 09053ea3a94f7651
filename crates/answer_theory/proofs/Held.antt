-- A table that holds what a tree gives has rows that can be scanned.
use Rattle.std.proofs.Common.{◌≡◌, ℕ, Bool, true, not, ◌&&◌, ◌||◌, ◌==◌, List, [], ◌∷◌, filter, All, refl, sym, ap, ◌∙◌, subst, ⊎_elim}
use Rattle.std.specs.List.{list_all, AllByRecursion}
use Rattle.std.proofs.lemmas.Bool.{and_parts, and_from, not-true, or_cases, or_right, eqb-true, false≢true}
use Rattle.answer_theory.proofs.Bags.{bag_sym}
use Rattle.answer_theory.proofs.Bindings.{bound_first_entries}
use Rattle.answer_theory.proofs.Bools.{nat_eq_self}
use Rattle.std.proofs.lemmas.List.Elements.{All-from_recursion, recursion_from_All}
use Rattle.answer_theory.specs.Bags.{SameBag}
use Rattle.answer_theory.specs.Bindings.{Binding, IsSound, has_entry, first_entries}
use Rattle.answer_theory.specs.Solutions.{names, Binds}
use Rattle.answer_theory.specs.Trees.{Tree, variables, IsRowOf, no_tables, Holds}
use Rattle.answer_theory.specs.Rows.{over, binding_variables, first_occurrences, AreDistinct}
use Rattle.answer_theory.proofs.Lists.{each_then}
use Rattle.answer_theory.proofs.Numbers.{bag_all}
use Rattle.answer_theory.proofs.Rows.{keeps_others, named_over, named_first_entries, each_once_distinct}
use Rattle.answer_theory.proofs.Trees.{rows_given, binds_fewer}

-- ---- rows by a test

abbrev binds_all : {X : Type 0} → List ℕ → Binding X → Bool
binds_all vs b = list_all (has_entry b) vs

binds_of_all : {X : Type 0} (vs : List ℕ) (b : Binding X) → binds_all vs b ≡ true → Binds vs b
binds_of_all [] b h v e = absurd (false≢true e)
binds_of_all (w ∷ vs) b h v e = ⊎_elim
    (λ i. ap (has_entry b) (sym (eqb-true w v i)) ∙ (and_parts (has_entry b w) (list_all (has_entry b) vs) h).0)
    (λ i. binds_of_all vs b (and_parts (has_entry b w) (list_all (has_entry b) vs) h).1 v i)
    (or_cases (w == v) (names vs v) e)

all_of_binds : {X : Type 0} (vs : List ℕ) (b : Binding X) → Binds vs b → binds_all vs b ≡ true
all_of_binds [] b h = refl
all_of_binds (w ∷ vs) b h = and_from (has_entry b w) (list_all (has_entry b) vs) (h w (ap (λ t. t || names vs w) (nat_eq_self w))) (all_of_binds vs b (λ v e. h v (or_right (w == v) (names vs v) e)))

abbrev distinct : List ℕ → Bool
distinct [] = true
distinct (v ∷ vs) = not (names vs v) && distinct vs

are_distinct : (vs : List ℕ) → distinct vs ≡ true → AreDistinct vs
are_distinct [] h = tt
are_distinct (v ∷ vs) h = (not-true (names vs v) (and_parts (not (names vs v)) (distinct vs) h).0, are_distinct vs (and_parts (not (names vs v)) (distinct vs) h).1)

distinct_true : (vs : List ℕ) → AreDistinct vs → distinct vs ≡ true
distinct_true [] h = refl
distinct_true (v ∷ vs) h = and_from (not (names vs v)) (distinct vs) (ap not h.0) (distinct_true vs h.1)

pub bound_named : {X : Type 0} (b : Binding X) (v : ℕ) → has_entry b v ≡ names (binding_variables b) v
bound_named [] v = refl
bound_named (p ∷ b) v = ap (λ t. (p.0 == v) || t) (bound_named b v)

-- a variable occurs where it occurs first
pub occurrences_named : (vs : List ℕ) (v : ℕ) → names (first_occurrences vs) v ≡ names vs v
occurrences_named vs v =
    ap (λ ws. names (first_occurrences ws) v) (sym (named_over vs vs refl))
    ∙ ap (λ ws. names ws v) (sym (named_first_entries (over vs vs)))
    ∙ sym (bound_named (first_entries (over vs vs)) v)
    ∙ bound_first_entries (over vs vs) v
    ∙ bound_named (over vs vs) v
    ∙ ap (λ ws. names ws v) (named_over vs vs refl)

once_of_distinct : {X : Type 0} (b : Binding X) → AreDistinct (binding_variables b) → first_entries b ≡ b
once_of_distinct [] h = refl
once_of_distinct (p ∷ b) h = ap (λ l. p ∷ l) (ap (filter (λ c. not (c.0 == p.0))) (once_of_distinct b h.1) ∙ keeps_others p.0 b (bound_named b p.0 ∙ h.0))

distinct_of_once : {X : Type 0} (b : Binding X) → first_entries b ≡ b → AreDistinct (binding_variables b)
distinct_of_once b e = subst AreDistinct (sym (named_first_entries b) ∙ ap binding_variables e) (each_once_distinct (binding_variables b))

abbrev is_row : {X : Type 0} → List ℕ → Binding X → Bool
is_row vs b = binds_all vs b && distinct (binding_variables b)

tested : {X : Type 0} (vs : List ℕ) (rows : List (Binding X)) → AllByRecursion (IsRowOf vs) rows → list_all (is_row vs) rows ≡ true
tested vs [] all = refl
tested vs (b ∷ rows) all = and_from (is_row vs b) (list_all (is_row vs) rows)
    (and_from (binds_all vs b) (distinct (binding_variables b)) (all_of_binds vs b all.0.binds) (distinct_true (binding_variables b) (distinct_of_once b all.0.once)))
    (tested vs rows all.1)

rows_of_tested : {X : Type 0} (vs : List ℕ) (rows : List (Binding X)) → list_all (is_row vs) rows ≡ true → AllByRecursion (IsRowOf vs) rows
rows_of_tested vs [] e = tt
rows_of_tested vs (b ∷ rows) e =
    let here : is_row vs b ≡ true = (and_parts (is_row vs b) (list_all (is_row vs) rows) e).0 in (
      record { binds = binds_of_all vs b (and_parts (binds_all vs b) (distinct (binding_variables b)) here).0; once = once_of_distinct b (are_distinct (binding_variables b) (and_parts (binds_all vs b) (distinct (binding_variables b)) here).1) },
      rows_of_tested vs rows (and_parts (is_row vs b) (list_all (is_row vs) rows) e).1,
    )

-- ---- the rows of bags

pub bag_rows : {X : Type 0} (vs : List ℕ) → {xs ys : List (Binding X)} → SameBag xs ys → All (IsRowOf vs) xs → All (IsRowOf vs) ys
bag_rows vs {xs} {ys} h all = All-from_recursion _ ys (rows_of_tested vs ys (sym (bag_all (is_row vs) h) ∙ tested vs xs (recursion_from_All _ xs all)))

fewer : {X : Type 0} (us vs : List ℕ) → ((v : ℕ) → names us v ≡ true → names vs v ≡ true) → (b : Binding X) → IsRowOf vs b → IsRowOf us b
fewer us vs h b k = record { binds = binds_fewer us vs b h k.binds; once = k.once }

-- a table that holds what a tree gives can be scanned
pub held_rows : {X : Type 0} (joins : X → X → Bool) → IsSound joins → (vs : List ℕ) (table : List (Binding X)) (tree : Tree X) → Holds joins vs table tree → All (IsRowOf vs) table
held_rows joins s vs table tree h = All-from_recursion _ table (each_then (IsRowOf (variables tree)) (IsRowOf vs) (fewer vs (variables tree) h.covers) table
    (recursion_from_All _ table (bag_rows (variables tree) (bag_sym h.rows) (rows_given joins s no_tables tree h.placed))))
