-- The laws of bags.
use Rattle.std.proofs.Common.{◌≡◌, ℕ, ◌+◌, Bool, true, false, cond, List, [], ◌∷◌, ◌++◌, map, filter, flat_map, length, IsPermutation, sum_by, refl, sym, ap, ◌∙◌, arith}
use Rattle.std.proofs.lemmas.List.Sums.{sum_by-cons}
use Rattle.std.proofs.lemmas.List.Sorted.{sum_by-IsPermutation}
use mathlib.Core.Path.{fun_ext}
use Rattle.answer_theory.specs.Bags.{weight_of, SameBag}

-- ---- weighings

pub weight_of_append : {X : Type 0} (f : X → ℕ) → (xs ys : List X) → weight_of f (xs ++ ys) ≡ weight_of f xs + weight_of f ys
weight_of_append f [] ys = omega arith
weight_of_append f (x ∷ xs) ys = rw (weight_of_append f xs ys) (omega arith)

pub weight_of_map : {X Y : Type 0} (h : X → Y) (f : Y → ℕ) → (xs : List X) → weight_of f (map h xs) ≡ weight_of (λ x. f (h x)) xs
weight_of_map h f [] = refl
weight_of_map h f (x ∷ xs) = ap (λ n. f (h x) + n) (weight_of_map h f xs)

pub weight_of_filter : {X : Type 0} (test : X → Bool) (f : X → ℕ) → (xs : List X) → weight_of f (filter test xs) ≡ weight_of (λ x. cond (test x) (f x) 0) xs
weight_of_filter test f [] = refl
weight_of_filter test f (x ∷ xs) = go (test x) (weight_of_filter test f xs)
  where
    go : (b : Bool) → weight_of f (filter test xs) ≡ weight_of (λ y. cond (test y) (f y) 0) xs
        → weight_of f (cond b (x ∷ filter test xs) (filter test xs)) ≡ cond b (f x) 0 + weight_of (λ y. cond (test y) (f y) 0) xs
    go true ih = ap (λ n. f x + n) ih
    go false ih = omega (arith, ih)

pub weight_of_flat_map : {X Y : Type 0} (h : X → List Y) (f : Y → ℕ) → (xs : List X) → weight_of f (flat_map h xs) ≡ weight_of (λ x. weight_of f (h x)) xs
weight_of_flat_map h f [] = refl
weight_of_flat_map h f (x ∷ xs) = weight_of_append f (h x) (flat_map h xs) ∙ ap (λ n. weight_of f (h x) + n) (weight_of_flat_map h f xs)

-- each item weighs the same both times
pub weight_of_alike : {X : Type 0} (f g : X → ℕ) → ((x : X) → f x ≡ g x) → (xs : List X) → weight_of f xs ≡ weight_of g xs
weight_of_alike f g h xs = ap (λ w. weight_of w xs) (fun_ext h)

pub weight_of_nothing : {X : Type 0} → (xs : List X) → weight_of (λ x. 0) xs ≡ 0
weight_of_nothing [] = refl
weight_of_nothing (x ∷ xs) = rw (weight_of_nothing xs) refl

pub weight_of_sum : {X : Type 0} (f g : X → ℕ) → (xs : List X) → weight_of (λ x. f x + g x) xs ≡ weight_of f xs + weight_of g xs
weight_of_sum f g [] = refl
weight_of_sum f g (x ∷ xs) = rw (weight_of_sum f g xs) (omega arith)

-- two sums, one inside the other, in either order
pub weight_of_exchange : {X Y : Type 0} (f : X → Y → ℕ) → (xs : List X) (ys : List Y)
    → weight_of (λ x. weight_of (λ y. f x y) ys) xs ≡ weight_of (λ y. weight_of (λ x. f x y) xs) ys
weight_of_exchange f [] ys = sym (weight_of_nothing ys)
weight_of_exchange f (x ∷ xs) ys = ap (λ n. weight_of (λ y. f x y) ys + n) (weight_of_exchange f xs ys) ∙ sym (weight_of_sum (λ y. f x y) (λ y. weight_of (λ z. f z y) xs) ys)

pub weight_of_length : {X : Type 0} → (xs : List X) → weight_of (λ x. 1) xs ≡ length xs
weight_of_length [] = refl
weight_of_length (x ∷ xs) = rw (weight_of_length xs) (omega arith)

pub weight_of_sum_by : {X : Type 0} (f : X → ℕ) → (xs : List X) → weight_of f xs ≡ sum_by f xs
weight_of_sum_by f [] = refl
weight_of_sum_by f (x ∷ xs) = ap (λ n. f x + n) (weight_of_sum_by f xs) ∙ sym (sum_by-cons f x xs)

-- ---- bags

pub bag_refl : {X : Type 0} → (xs : List X) → SameBag xs xs
bag_refl xs = record { weighs = λ f. refl }

pub bag_sym : {X : Type 0} → {xs ys : List X} → SameBag xs ys → SameBag ys xs
bag_sym h = record { weighs = λ f. sym (h.weighs f) }

pub bag_trans : {X : Type 0} → {xs ys zs : List X} → SameBag xs ys → SameBag ys zs → SameBag xs zs
bag_trans h k = record { weighs = λ f. h.weighs f ∙ k.weighs f }

pub bag_from_same : {X : Type 0} → {xs ys : List X} → xs ≡ ys → SameBag xs ys
bag_from_same e = record { weighs = λ f. ap (weight_of f) e }

pub bag_append : {X : Type 0} → {xs ys us vs : List X} → SameBag xs ys → SameBag us vs → SameBag (xs ++ us) (ys ++ vs)
bag_append {xs} {ys} {us} {vs} h k = record { weighs = λ f. weight_of_append f xs us ∙ (ap (λ n. n + weight_of f us) (h.weighs f) ∙ (ap (λ n. weight_of f ys + n) (k.weighs f) ∙ sym (weight_of_append f ys vs))) }

pub bag_append_comm : {X : Type 0} → (xs ys : List X) → SameBag (xs ++ ys) (ys ++ xs)
bag_append_comm xs ys = record { weighs = λ f. rw (weight_of_append f xs ys, weight_of_append f ys xs) (omega arith) }

pub bag_cons : {X : Type 0} → (x : X) {xs ys : List X} → SameBag xs ys → SameBag (x ∷ xs) (x ∷ ys)
bag_cons x h = record { weighs = λ f. ap (λ n. f x + n) (h.weighs f) }

pub bag_push : {X : Type 0} → (xs : List X) (x : X) → SameBag (xs ++ x ∷ []) (x ∷ xs)
bag_push xs x = bag_append_comm xs (x ∷ [])

pub bag_middle : {X : Type 0} → (xs : List X) (x : X) (ys : List X) → SameBag (xs ++ x ∷ ys) (x ∷ (xs ++ ys))
bag_middle xs x ys = record { weighs = λ f. rw (weight_of_append f xs (x ∷ ys), weight_of_append f xs ys) (omega arith) }

-- what is left when an item is taken away on both sides
pub bag_uncons : {X : Type 0} → (x : X) {xs ys : List X} → SameBag (x ∷ xs) (x ∷ ys) → SameBag xs ys
bag_uncons x {xs} {ys} h = record { weighs = λ f. let e : f x + weight_of f xs ≡ f x + weight_of f ys = h.weighs f in omega arith }

pub bag_map : {X Y : Type 0} (h : X → Y) → {xs ys : List X} → SameBag xs ys → SameBag (map h xs) (map h ys)
bag_map h {xs} {ys} k = record { weighs = λ f. weight_of_map h f xs ∙ (k.weighs (λ x. f (h x)) ∙ sym (weight_of_map h f ys)) }

pub bag_filter : {X : Type 0} (test : X → Bool) → {xs ys : List X} → SameBag xs ys → SameBag (filter test xs) (filter test ys)
bag_filter test {xs} {ys} k = record { weighs = λ f. weight_of_filter test f xs ∙ (k.weighs (λ x. cond (test x) (f x) 0) ∙ sym (weight_of_filter test f ys)) }

pub bag_flat_map : {X Y : Type 0} (h : X → List Y) → {xs ys : List X} → SameBag xs ys → SameBag (flat_map h xs) (flat_map h ys)
bag_flat_map h {xs} {ys} k = record { weighs = λ f. weight_of_flat_map h f xs ∙ (k.weighs (λ x. weight_of f (h x)) ∙ sym (weight_of_flat_map h f ys)) }

-- each item gives the same bag both times
pub bag_flat_map_alike : {X Y : Type 0} (h k : X → List Y) → ((x : X) → SameBag (h x) (k x)) → (xs : List X) → SameBag (flat_map h xs) (flat_map k xs)
bag_flat_map_alike h k e xs = record { weighs = λ f. weight_of_flat_map h f xs ∙ (weight_of_alike _ _ (λ x. (e x).weighs f) xs ∙ sym (weight_of_flat_map k f xs)) }

pub bag_exchange : {X Y Z : Type 0} (h : X → Y → List Z) → (xs : List X) (ys : List Y)
    → SameBag (flat_map (λ x. flat_map (λ y. h x y) ys) xs) (flat_map (λ y. flat_map (λ x. h x y) xs) ys)
bag_exchange h xs ys = record {
  weighs = λ f.
      weight_of_flat_map _ f xs
      ∙ (weight_of_alike _ _ (λ x. weight_of_flat_map (λ y. h x y) f ys) xs
      ∙ (weight_of_exchange (λ x y. weight_of f (h x y)) xs ys
      ∙ (weight_of_alike _ _ (λ y. sym (weight_of_flat_map (λ x. h x y) f xs)) ys
      ∙ sym (weight_of_flat_map _ f ys))));
}

pub bag_length : {X : Type 0} → {xs ys : List X} → SameBag xs ys → length xs ≡ length ys
bag_length {xs} {ys} h = sym (weight_of_length xs) ∙ (h.weighs (λ x. 1) ∙ weight_of_length ys)

pub bag_from_permutation : {X : Type 0} → (xs ys : List X) → IsPermutation xs ys → SameBag xs ys
bag_from_permutation xs ys h = record { weighs = λ f. weight_of_sum_by f xs ∙ (sym (sum_by-IsPermutation f xs ys h) ∙ sym (weight_of_sum_by f ys)) }
