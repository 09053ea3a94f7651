-- There is one strictly sorted list of given items.
use Rattle.std.proofs.Common.{◌≡◌, zero, suc, List, [], ◌∷◌, Contains, ◌⊎◌, inl, inr, ⊎_elim, refl, sym, ap, ap₂, ◌∙◌, subst, arith}
use Rattle.std.proofs.Common.{Ordering, Less}
use Rattle.std.specs.Cmp.{IsTotalOrder}
use Rattle.std.specs.Ordering.{ordering_reverse}
use Rattle.std.specs.List.{AllByRecursion}
use Rattle.std.specs.List.Sorted.{IsStrictlySortedBy}
use Rattle.std.proofs.lemmas.List.Elements.{All-from_recursion, All-contains}

contains_none : {K : Type 0} (x : K) → Contains [] x → ⊥
contains_none x h = omega (arith, h.1)

contains_first : {K : Type 0} (x : K) (xs : List K) → Contains (x ∷ xs) x
contains_first x xs = (0, omega arith, refl)

contains_more : {K : Type 0} (y x : K) (xs : List K) → Contains xs x → Contains (y ∷ xs) x
contains_more y x xs h = (suc h.0, omega (arith, h.1), h.2)

contains_cases : {K : Type 0} (y x : K) (ys : List K) → Contains (y ∷ ys) x → (y ≡ x) ⊎ Contains ys x
contains_cases y x ys (zero, l, e) = inl e
contains_cases y x ys (suc k, l, e) = inr (k, omega (arith, l), e)

module _ {K : Type 0} (cmp : K → K → Ordering) (total : IsTotalOrder cmp) where
  not_both : (x y : K) → cmp x y ≡ Less → cmp y x ≡ Less → ⊥
  not_both x y e h = cc (sym e ∙ (total.antisymm x y ∙ ap ordering_reverse h))

  pub one_sorted : (xs ys : List K) → IsStrictlySortedBy cmp xs → IsStrictlySortedBy cmp ys → ((x : K) → Contains xs x → Contains ys x) → ((x : K) → Contains ys x → Contains xs x) → xs ≡ ys
  unfolding IsStrictlySortedBy
  one_sorted [] [] h k f g = refl
  one_sorted [] (y ∷ ys) h k f g = absurd (contains_none y (g y (contains_first y ys)))
  one_sorted (x ∷ xs) [] h k f g = absurd (contains_none x (f x (contains_first x xs)))
  one_sorted (x ∷ xs) (y ∷ ys) h k f g = ap₂ (λ z zs. z ∷ zs) first
      (one_sorted xs ys h.1 k.1
      (λ z i. ⊎_elim (λ e. absurd (not_both x x (below x xs h.0 x (subst (Contains xs) (sym e ∙ sym first) i)) (below x xs h.0 x (subst (Contains xs) (sym e ∙ sym first) i)))) (λ j. j) (contains_cases y z ys (f z (contains_more x z xs i))))
      (λ z i. ⊎_elim (λ e. absurd (not_both y y (below y ys k.0 y (subst (Contains ys) (sym e ∙ first) i)) (below y ys k.0 y (subst (Contains ys) (sym e ∙ first) i)))) (λ j. j) (contains_cases x z xs (g z (contains_more y z ys i)))))
    where
      below : (u : K) (us : List K) → AllByRecursion (λ w. cmp u w ≡ Less) us → (z : K) → Contains us z → cmp u z ≡ Less
      below u us all z i = All-contains (λ w. cmp u w ≡ Less) us z (All-from_recursion _ us all) i

      first : x ≡ y
      first = ⊎_elim (λ e. sym e) (λ i. ⊎_elim (λ e. e) (λ j. absurd (not_both x y (below x xs h.0 y j) (below y ys k.0 x i))) (contains_cases x y xs (g y (contains_first y ys)))) (contains_cases y x ys (f x (contains_first x xs)))
