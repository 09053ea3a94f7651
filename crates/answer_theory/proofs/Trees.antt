-- The laws of trees: whatever the tree, its rows are the solutions over its leaves.
use Rattle.std.proofs.Common.{◌≡◌, ℕ, Bool, true, false, ◌&&◌, ◌==◌, List, [], ◌∷◌, ◌++◌, flat_map, All, refl, sym, ap, ap₂, ◌∙◌, subst}
use Rattle.std.specs.List.{AllByRecursion}
use Rattle.std.proofs.lemmas.Bool.{or_left, or_right, or_cases}
use Rattle.std.proofs.lemmas.List.Elements.{All-from_recursion, recursion_from_All}
use mathlib.Core.Logic.{⊎_elim}
use Rattle.answer_theory.specs.Bags.{SameBag}
use Rattle.answer_theory.specs.Bindings.{Binding, IsSound, meet, consistent, first_entries, glue}
use Rattle.answer_theory.specs.Solutions.{only, combinations, chosen_rows, solutions, joined_rows, names, Binds, ReadsOnly}
use Rattle.answer_theory.specs.Trees.{Tree, Leaf, Scan, Join, given_rows, leaves, variables, tests, IsRowOf, IsPlaced, expansion, no_tables, Holds, ScansHold}
use Rattle.answer_theory.proofs.Bags.{bag_refl, bag_trans, bag_from_same, bag_flat_map, bag_flat_map_alike}
use Rattle.answer_theory.proofs.Bools.{and_true}
use Rattle.answer_theory.proofs.Lists.{any_append, each_flat_map, each_then}
use Rattle.answer_theory.proofs.Bindings.{consistent_first_entries, first_entries_first_entries}
use Rattle.answer_theory.proofs.Solutions.{combinations_one, combinations_binds, binds_first_entries, solutions_join}

-- ---- what a tree's tests read, and what its rows bind

pub reads_more : {X : Type 0} (us vs : List ℕ) (test : Binding X → Bool) → ((v : ℕ) → names us v ≡ true → names vs v ≡ true) → ReadsOnly us test → ReadsOnly vs test
reads_more us vs test h k b c e = k b c (λ v i. e v (h v i))

pub binds_fewer : {X : Type 0} (us vs : List ℕ) (b : Binding X) → ((v : ℕ) → names us v ≡ true → names vs v ≡ true) → Binds vs b → Binds us b
binds_fewer us vs b h k v e = k v (h v e)

names_left : (us vs : List ℕ) (v : ℕ) → names us v ≡ true → names (us ++ vs) v ≡ true
names_left us vs v e = any_append (λ w. w == v) us vs ∙ or_left (names us v) (names vs v) e

names_right : (us vs : List ℕ) (v : ℕ) → names vs v ≡ true → names (us ++ vs) v ≡ true
names_right us vs v e = any_append (λ w. w == v) us vs ∙ or_right (names us v) (names vs v) e

pub tests_read : {X : Type 0} (tables : ℕ → List (Binding X)) → (t : Tree X) → IsPlaced tables t → ReadsOnly (variables t) (tests t)
tests_read tables (Leaf vs test rows) h b c e = h.1 b c e
tests_read tables (Scan vs f) h b c e = refl
tests_read tables (Join test l r) h b c e = ap₂ (λ p q. p && q)
    (ap₂ (λ p q. p && q)
    (reads_more (variables l) (variables l ++ variables r) (tests l) (names_left (variables l) (variables r)) (tests_read tables l h.0) b c e)
    (reads_more (variables r) (variables l ++ variables r) (tests r) (names_right (variables l) (variables r)) (tests_read tables r h.1) b c e))
    (h.2 b c e)

pub leaves_bind : {X : Type 0} (tables : ℕ → List (Binding X)) → (t : Tree X) → IsPlaced tables t → AllByRecursion (Binds (variables t)) (combinations (leaves tables t))
leaves_bind tables (Leaf vs test rows) h = subst (AllByRecursion (Binds vs)) (sym (combinations_one rows)) (recursion_from_All _ rows h.0)
leaves_bind tables (Scan vs f) h = subst (AllByRecursion (Binds vs)) (sym (combinations_one (tables f))) (each_then (IsRowOf vs) (Binds vs) (λ b i. i.binds) (tables f) (recursion_from_All _ (tables f) h))
leaves_bind tables (Join test l r) h = combinations_binds (variables l) (variables r) (leaves tables l) (leaves tables r) (leaves_bind tables l h.0) (leaves_bind tables r h.1)

-- ---- the rows of a scan are chosen as they are

pub chosen_again : {X : Type 0} (joins : X → X → Bool) (vs : List ℕ) → (rows : List (Binding X)) → AllByRecursion (IsRowOf vs) rows → chosen_rows joins (λ b. true) rows ≡ rows
chosen_again joins vs [] all = refl
chosen_again joins vs (b ∷ rows) all = ap₂ (λ t c. only t c ++ chosen_rows joins (λ d. true) rows)
    (and_true (consistent joins b) ∙ (ap (consistent joins) (sym all.0.once) ∙ consistent_first_entries joins b)) all.0.once
    ∙ ap (λ l. b ∷ l) (chosen_again joins vs rows all.1)

-- ---- the law of trees

module _ {X : Type 0} (joins : X → X → Bool) (s : IsSound joins) (tables : ℕ → List (Binding X)) where
  pub given_solutions : (t : Tree X) → IsPlaced tables t → given_rows joins tables t ≡ solutions joins (tests t) (leaves tables t)
  given_solutions (Leaf vs test rows) h = ap (chosen_rows joins test) (sym (combinations_one rows))
  given_solutions (Scan vs f) h = sym (ap (chosen_rows joins (λ b. true)) (combinations_one (tables f)) ∙ chosen_again joins vs (tables f) (recursion_from_All _ (tables f) h))
  given_solutions (Join test l r) h =
      ap₂ (joined_rows joins test) (given_solutions l h.0) (given_solutions r h.1)
      ∙ sym (solutions_join joins s (variables l) (variables r) (tests l) (tests r) test (tests_read tables l h.0) (tests_read tables r h.1)
      (leaves tables l) (leaves tables r) (leaves_bind tables l h.0) (leaves_bind tables r h.1))

pub rows_chosen : {X : Type 0} (joins : X → X → Bool) (test : Binding X → Bool) (vs : List ℕ) → (rows : List (Binding X)) → AllByRecursion (Binds vs) rows → AllByRecursion (IsRowOf vs) (chosen_rows joins test rows)
rows_chosen {X} joins test vs rows h = each_flat_map (Binds vs) (IsRowOf vs) (λ b. only (consistent joins b && test (first_entries b)) (first_entries b)) (λ b i. go b i (consistent joins b && test (first_entries b))) rows h
  where
    go : (b : Binding X) → Binds vs b → (t : Bool) → AllByRecursion (IsRowOf vs) (only t (first_entries b))
    go b i true = (record { binds = binds_first_entries vs b i; once = first_entries_first_entries b }, tt)
    go b i false = tt

-- the rows that a tree gives can be scanned
pub rows_given : {X : Type 0} (joins : X → X → Bool) → IsSound joins → (tables : ℕ → List (Binding X)) → (t : Tree X) → IsPlaced tables t → All (IsRowOf (variables t)) (given_rows joins tables t)
rows_given joins s tables t h = All-from_recursion _ (given_rows joins tables t) (subst (AllByRecursion (IsRowOf (variables t))) (sym (given_solutions joins s tables t h))
    (rows_chosen joins (tests t) (variables t) (combinations (leaves tables t)) (leaves_bind tables t h)))

-- ---- fragments

pub bag_joined : {X : Type 0} (joins : X → X → Bool) (test : Binding X → Bool) → {ls ms rs ss : List (Binding X)} → SameBag ls ms → SameBag rs ss → SameBag (joined_rows joins test ls rs) (joined_rows joins test ms ss)
bag_joined joins test {ls} {ms} {rs} {ss} h k = bag_trans
    (bag_flat_map (λ l. flat_map (λ r. only (meet joins l r && test (glue l r)) (glue l r)) rs) h)
    (bag_flat_map_alike _ _ (λ l. bag_flat_map (λ r. only (meet joins l r && test (glue l r)) (glue l r)) k) ms)

module _ {X : Type 0} (joins : X → X → Bool) (tables : ℕ → List (Binding X)) (trees : ℕ → Tree X) where
  pub given_expanded : (t : Tree X) → ScansHold joins tables trees t → SameBag (given_rows joins tables t) (given_rows joins no_tables (expansion trees t))
  given_expanded (Leaf vs test rows) h = bag_refl (chosen_rows joins test rows)
  given_expanded (Scan vs f) h = h.rows
  given_expanded (Join test l r) h = bag_joined joins test (given_expanded l h.0) (given_expanded r h.1)

  expanded_covers : (t : Tree X) → ScansHold joins tables trees t → (v : ℕ) → names (variables t) v ≡ true → names (variables (expansion trees t)) v ≡ true
  expanded_covers (Leaf vs test rows) h v e = e
  expanded_covers (Scan vs f) h v e = h.covers v e
  expanded_covers (Join test l r) h v e = any_append (λ w. w == v) (variables (expansion trees l)) (variables (expansion trees r)) ∙ ⊎_elim
      (λ i. or_left (names (variables (expansion trees l)) v) (names (variables (expansion trees r)) v) (expanded_covers l h.0 v i))
      (λ i. or_right (names (variables (expansion trees l)) v) (names (variables (expansion trees r)) v) (expanded_covers r h.1 v i))
      (or_cases (names (variables l) v) (names (variables r) v) (sym (any_append (λ w. w == v) (variables l) (variables r)) ∙ e))

  pub expanded_placed : (t : Tree X) → IsPlaced tables t → ScansHold joins tables trees t → IsPlaced no_tables (expansion trees t)
  expanded_placed (Leaf vs test rows) p h = p
  expanded_placed (Scan vs f) p h = h.placed
  expanded_placed (Join test l r) p h = (
    expanded_placed l p.0 h.0,
    expanded_placed r p.1 h.1,
    reads_more (variables l ++ variables r) (variables (expansion trees l) ++ variables (expansion trees r)) test (expanded_covers (Join test l r) h) p.2,
  )

  -- what a tree over finished fragments gives: the solutions over the leaves of all
  pub fragments_solutions : IsSound joins → (t : Tree X) → IsPlaced tables t → ScansHold joins tables trees t
      → SameBag (given_rows joins tables t) (solutions joins (tests (expansion trees t)) (leaves no_tables (expansion trees t)))
  fragments_solutions s t p h = bag_trans (given_expanded t h) (bag_from_same (given_solutions joins s no_tables (expansion trees t) (expanded_placed t p h)))

  -- so a table that a tree over finished fragments filled holds what the expanded tree gives
  pub finished_holds : (t : Tree X) (table : List (Binding X)) → IsPlaced tables t → ScansHold joins tables trees t → SameBag table (given_rows joins tables t) → Holds joins (variables t) table (expansion trees t)
  finished_holds t table p h k = record { rows = bag_trans k (given_expanded t h); placed = expanded_placed t p h; covers = expanded_covers t h }
