-- Sums over the views of all seats, read by `get_elem?`.
use Rattle.std.proofs.Common.{◌≡◌, ℕ, zero, suc, ◌+◌, ◌≤◌, List, [], ◌∷◌, set, refl, sym, ap, arith}
use Rattle.std.specs.Prelude.{sum_by}
use Rattle.std.proofs.lemmas.List.Sums.{sum_by-cons}
use mathlib.Core.Option.{some, some-ne-none, some-injective}
use lib.ListN.{get_elem?}

pub at_set_here : {A : Type 0} (l : List A) (i : ℕ) (v w : A) → get_elem? l i ≡ some v → get_elem? (set l i w) i ≡ some w
at_set_here [] i v w e = absurd (some-ne-none v (sym e))
at_set_here (x ∷ xs) zero v w e = refl
at_set_here (x ∷ xs) (suc i) v w e = at_set_here xs i v w e

module _ {A : Type 0} (f : A → ℕ) where
  pub sum_by-at_set : (l : List A) (i : ℕ) (v w : A) → get_elem? l i ≡ some v → sum_by f (set l i w) + f v ≡ sum_by f l + f w
  sum_by-at_set [] i v w e = absurd (some-ne-none v (sym e))
  sum_by-at_set (x ∷ xs) zero v w e = omega (arith, ap f (some-injective x v e), sum_by-cons f x xs, sum_by-cons f w xs)
  sum_by-at_set (x ∷ xs) (suc i) v w e = omega (arith, sum_by-cons f x xs, sum_by-cons f x (set xs i w), sum_by-at_set xs i v w e)

  -- a term is at most the sum
  pub at_most_sum : (l : List A) (i : ℕ) (v : A) → get_elem? l i ≡ some v → f v ≤ sum_by f l
  at_most_sum [] i v e = absurd (some-ne-none v (sym e))
  at_most_sum (x ∷ xs) zero v e = omega (arith, ap f (some-injective x v e), sum_by-cons f x xs)
  at_most_sum (x ∷ xs) (suc i) v e = omega (arith, sum_by-cons f x xs, at_most_sum xs i v e)

module _ {A : Type 0} (f g : A → ℕ) where
  pub sum_by-mono : (l : List A) → ((i : ℕ) (v : A) → get_elem? l i ≡ some v → f v ≤ g v) → sum_by f l ≤ sum_by g l
  sum_by-mono [] each = omega arith
  sum_by-mono (x ∷ xs) each =
      let here : f x ≤ g x = each 0 x (λ _. some x) in omega (arith, sum_by-cons f x xs, sum_by-cons g x xs, sum_by-mono xs (λ i. each (suc i)))

  -- where each g that is 0 makes f 0, a sum of g that is 0 makes that of f 0
  zero_sum : (l : List A) → ((i : ℕ) (v : A) → get_elem? l i ≡ some v → g v ≡ 0 → f v ≡ 0) → sum_by g l ≡ 0 → sum_by f l ≡ 0
  zero_sum [] each none = omega arith
  zero_sum (x ∷ xs) each none =
      let whole = sum_by-cons g x xs in
      let here : f x ≡ 0 = each 0 x (λ _. some x) (omega arith) in
      omega (arith, sum_by-cons f x xs, zero_sum xs (λ i. each (suc i)) (omega arith))

  -- where one element has the whole sum of g, it has that of f
  pub sum_of_one : (l : List A) (i : ℕ) (v : A) → get_elem? l i ≡ some v → ((j : ℕ) (u : A) → get_elem? l j ≡ some u → g u ≡ 0 → f u ≡ 0) → sum_by g l ≤ g v → sum_by f l ≡ f v
  sum_of_one [] i v e each whole = absurd (some-ne-none v (sym e))
  sum_of_one (x ∷ xs) zero v e each whole =
      let same = ap g (some-injective x v e) in
      let parts = sum_by-cons g x xs in
      omega (arith, sum_by-cons f x xs, ap f (some-injective x v e), zero_sum xs (λ j. each (suc j)) (omega arith))
  sum_of_one (x ∷ xs) (suc i) v e each whole =
      let parts = sum_by-cons g x xs in
      let least = at_most_sum g xs i v e in
      let here : f x ≡ 0 = each 0 x (λ _. some x) (omega arith) in
      omega (arith, sum_by-cons f x xs, sum_of_one xs i v e (λ j. each (suc j)) (omega arith))
