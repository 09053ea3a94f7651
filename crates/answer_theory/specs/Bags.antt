-- Bags: lists in which each item counts as often as it stands there, and where it stands doesn't count.
use Rattle.std.specs.Prelude.{◌≡◌, ℕ, zero, suc, ◌+◌, ◌==◌, cond, List, [], ◌∷◌}

-- the weights of the items, added up
abbrev pub weight_of : {X : Type 0} → (X → ℕ) → List X → ℕ
weight_of f [] = 0
weight_of f (x ∷ xs) = f x + weight_of f xs

-- Whatever each item weighs, the lists weigh the same: each item stands in both equally often.
pub record SameBag {X : Type 0} (xs ys : List X) : Type 0 where
  pub weighs : (f : X → ℕ) → weight_of f xs ≡ weight_of f ys

-- how often the number stands in the list
abbrev pub count_of : ℕ → List ℕ → ℕ
count_of n ns = weight_of (λ m. cond (m == n) 1 0) ns

-- the numbers from a first one on
abbrev pub numbers_from : ℕ → ℕ → List ℕ
numbers_from first zero = []
numbers_from first (suc n) = first ∷ numbers_from (suc first) n
