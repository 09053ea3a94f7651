-- The laws of choices: what they bind are the solutions over the leaves of what fits.
use Rattle.std.proofs.Common.{◌≡◌, ℕ, zero, suc, Bool, true, false, cond, ◌&&◌, List, [], ◌∷◌, ◌++◌, map, filter, flat_map, length, slice_get, Option, Some, refl, sym, ap, ◌∙◌, append_assoc, append-nil, map-id}
use Rattle.std.proofs.lemmas.List.{length-map}
use Rattle.std.specs.List.{list_all, cons_option}
use mathlib.Core.Path.{fun_ext}
use Rattle.answer_theory.specs.Bags.{numbers_from}
use Rattle.answer_theory.specs.Bindings.{Binding, consistent, first_entries}
use Rattle.answer_theory.specs.Solutions.{only, combinations, chosen_rows, solutions}
use Rattle.answer_theory.specs.Choices.{indices, index_lists, items_at, picks, fitting_rows, items_agree, choices, solutions_from}
use Rattle.answer_theory.proofs.Lists.{flat_map_flat_map, flat_map_map, flat_map_alike, map_map, map_flat_map, map_filter}
use Rattle.answer_theory.proofs.Solutions.{flat_map_only, cond_flat_map}

-- ---- indices and the items that stand there

numbers_shift : (first n : ℕ) → numbers_from (suc first) n ≡ map suc (numbers_from first n)
numbers_shift first zero = refl
numbers_shift first (suc n) = ap (λ l. suc first ∷ l) (numbers_shift (suc first) n)

-- each index's item is what a function makes of the items
each_index : {Y Z : Type 0} (f : Option Y → List Z) (ys : List Y) → flat_map (λ k. f (slice_get ys k)) (indices ys) ≡ flat_map (λ y. f (Some y)) ys
each_index f [] = refl
each_index f (y ∷ ys) = ap (λ l. f (Some y) ++ l) (
    ap (flat_map (λ k. f (slice_get (y ∷ ys) k))) (numbers_shift 0 (length ys))
    ∙ (flat_map_map (λ k. f (slice_get (y ∷ ys) k)) suc (indices ys)
    ∙ each_index f ys))

pub items_picked : {Y : Type 0} → (lists : List (List Y)) → map (items_at lists) (index_lists lists) ≡ picks lists
items_picked [] = refl
items_picked (ys ∷ lists) =
    map_flat_map (items_at (ys ∷ lists)) (λ k. map (λ ks. k ∷ ks) (index_lists lists)) (indices ys)
    ∙ (flat_map_alike _ _ (λ k. map_map (items_at (ys ∷ lists)) (λ ks. k ∷ ks) (index_lists lists) ∙ sym (map_map (cons_option (slice_get ys k)) (items_at lists) (index_lists lists))) (indices ys)
    ∙ (flat_map_alike _ _ (λ k. ap (map (cons_option (slice_get ys k))) (items_picked lists)) (indices ys)
    ∙ each_index (λ o. map (cons_option o) (picks lists)) ys))

-- ---- what fits, of each list

flat_only : {X Y : Type 0} (f : X → Y) (t : Bool) (xs : List X) → cond t (map f xs) [] ≡ flat_map (λ x. only t (f x)) xs
flat_only f true [] = refl
flat_only f true (x ∷ xs) = ap (λ l. f x ∷ l) (flat_only f true xs)
flat_only f false [] = refl
flat_only f false (x ∷ xs) = flat_only f false xs

module _ {X Y : Type 0} (fits : Y → Bool) (binding : Y → Binding X) where
  pub combinations_fitting : (lists : List (List Y)) → combinations (map (fitting_rows fits binding) lists) ≡ flat_map (λ items. only (list_all fits items) (flat_map binding items)) (picks lists)
  combinations_fitting [] = refl
  combinations_fitting (ys ∷ lists) =
      flat_map_flat_map (λ b. map (λ bs. b ++ bs) (combinations (map (fitting_rows fits binding) lists))) (λ y. only (fits y) (binding y)) ys
      ∙ (flat_map_alike _ _ (λ y.
      flat_map_only (λ b. map (λ bs. b ++ bs) (combinations (map (fitting_rows fits binding) lists))) (fits y) (binding y)
      ∙ (ap (λ rows. cond (fits y) (map (λ bs. binding y ++ bs) rows) []) (combinations_fitting lists)
      ∙ (ap (λ rows. cond (fits y) rows []) (map_flat_map (λ bs. binding y ++ bs) (λ items. only (list_all fits items) (flat_map binding items)) (picks lists))
      ∙ (cond_flat_map (λ items. map (λ bs. binding y ++ bs) (only (list_all fits items) (flat_map binding items))) (fits y) (picks lists)
      ∙ (flat_map_alike _ _ (λ items. go (fits y) (list_all fits items) (binding y) (flat_map binding items)) (picks lists)
      ∙ sym (flat_map_map (λ items. only (list_all fits items) (flat_map binding items)) (λ items. y ∷ items) (picks lists))))))) ys
      ∙ sym (flat_map_flat_map (λ items. only (list_all fits items) (flat_map binding items)) (λ y. map (λ items. y ∷ items) (picks lists)) ys))
    where
      go : (a b : Bool) (c d : Binding X) → cond a (map (λ bs. c ++ bs) (only b d)) [] ≡ only (a && b) (c ++ d)
      go true true c d = refl
      go true false c d = refl
      go false b c d = refl

-- ---- the law of choices

map_by_only : {X Y : Type 0} (g : X → Y) (test : X → Bool) → (xs : List X) → flat_map (λ x. only (test x) (g x)) xs ≡ map g (filter test xs)
map_by_only g test [] = refl
map_by_only {X} {Y} g test (x ∷ xs) = go (test x) (map_by_only g test xs)
  where
    go : (t : Bool) → flat_map (λ y. only (test y) (g y)) xs ≡ map g (filter test xs) → only t (g x) ++ flat_map (λ y. only (test y) (g y)) xs ≡ map g (cond t (x ∷ filter test xs) (filter test xs))
    go true ih = ap (λ l. g x ∷ l) ih
    go false ih = ih

module _ {X Y : Type 0} (joins : X → X → Bool) (fits : Y → Bool) (binding : Y → Binding X) (test : Binding X → Bool) where
  pub solutions_picked : (lists : List (List Y)) → solutions joins test (map (fitting_rows fits binding) lists)
      ≡ map (λ items. first_entries (flat_map binding items)) (filter (items_agree joins fits binding test) (picks lists))
  solutions_picked lists =
      ap (chosen_rows joins test) (combinations_fitting fits binding lists)
      ∙ (flat_map_flat_map (λ b. only (consistent joins b && test (first_entries b)) (first_entries b)) (λ items. only (list_all fits items) (flat_map binding items)) (picks lists)
      ∙ (flat_map_alike _ _ (λ items.
      flat_map_only (λ b. only (consistent joins b && test (first_entries b)) (first_entries b)) (list_all fits items) (flat_map binding items)
      ∙ go (list_all fits items) (consistent joins (flat_map binding items) && test (first_entries (flat_map binding items))) (first_entries (flat_map binding items))) (picks lists)
      ∙ map_by_only (λ items. first_entries (flat_map binding items)) (items_agree joins fits binding test) (picks lists)))
    where
      go : (a b : Bool) (g : Binding X) → cond a (only b g) [] ≡ only (a && b) g
      go true b g = refl
      go false b g = refl

  pub choices_solutions : (lists : List (List Y)) → map (λ ks. first_entries (flat_map binding (items_at lists ks))) (choices joins fits binding test lists)
      ≡ solutions joins test (map (fitting_rows fits binding) lists)
  choices_solutions lists =
      sym (map_map (λ items. first_entries (flat_map binding items)) (items_at lists) (choices joins fits binding test lists))
      ∙ (ap (map (λ items. first_entries (flat_map binding items))) (sym (map_filter (items_at lists) (items_agree joins fits binding test) (index_lists lists)) ∙ ap (filter (items_agree joins fits binding test)) (items_picked lists))
      ∙ sym (solutions_picked lists))

  pub choices_counted : (lists : List (List Y)) → length (choices joins fits binding test lists) ≡ length (solutions joins test (map (fitting_rows fits binding) lists))
  choices_counted lists = sym (length-map (choices joins fits binding test lists) (λ ks. first_entries (flat_map binding (items_at lists ks)))) ∙ ap length (choices_solutions lists)

  -- ---- a walk by nested choice

  pub walk_ends : (b : Binding X) → solutions_from joins fits binding test b [] ≡ only (consistent joins b && test (first_entries b)) (first_entries b)
  walk_ends b = append-nil _ ∙ ap (λ c. only (consistent joins c && test (first_entries c)) (first_entries c)) (append-nil b)

  pub walk_goes : (b : Binding X) (ys : List Y) (lists : List (List Y)) → solutions_from joins fits binding test b (ys ∷ lists) ≡ flat_map (λ y. cond (fits y) (solutions_from joins fits binding test (b ++ binding y) lists) []) ys
  walk_goes b ys lists =
      ap (chosen_rows joins test) (
      map_flat_map (λ bs. b ++ bs) (λ c. map (λ bs. c ++ bs) (combinations (map (fitting_rows fits binding) lists))) (fitting_rows fits binding ys)
      ∙ flat_map_flat_map (λ c. map (λ bs. b ++ bs) (map (λ bs. c ++ bs) (combinations (map (fitting_rows fits binding) lists)))) (λ y. only (fits y) (binding y)) ys)
      ∙ (flat_map_flat_map (λ c. only (consistent joins c && test (first_entries c)) (first_entries c)) (λ y. flat_map (λ c. map (λ bs. b ++ bs) (map (λ bs. c ++ bs) (combinations (map (fitting_rows fits binding) lists)))) (only (fits y) (binding y))) ys
      ∙ flat_map_alike _ _ (λ y.
      ap (chosen_rows joins test) (flat_map_only (λ c. map (λ bs. b ++ bs) (map (λ bs. c ++ bs) (combinations (map (fitting_rows fits binding) lists)))) (fits y) (binding y))
      ∙ go (fits y) (binding y)) ys)
    where
      go : (t : Bool) (c : Binding X) → chosen_rows joins test (cond t (map (λ bs. b ++ bs) (map (λ bs. c ++ bs) (combinations (map (fitting_rows fits binding) lists)))) []) ≡ cond t (solutions_from joins fits binding test (b ++ c) lists) []
      go true c = ap (chosen_rows joins test) (map_map (λ bs. b ++ bs) (λ bs. c ++ bs) (combinations (map (fitting_rows fits binding) lists)) ∙ ap (λ g. map g (combinations (map (fitting_rows fits binding) lists))) (fun_ext (λ r. sym (append_assoc b c r))))
      go false c = refl

  pub walk_begins : (lists : List (List Y)) → solutions_from joins fits binding test [] lists ≡ solutions joins test (map (fitting_rows fits binding) lists)
  walk_begins lists = ap (chosen_rows joins test) (map-id (combinations (map (fitting_rows fits binding) lists)))
