-- The least of the items that break a check, and what holds where none does.
use Rattle.std.proofs.Common.{◌≡◌, ℕ, ◌+◌, ◌≤◌, Bool, true, false, cond, List, [], ◌∷◌, ◌++◌, map, length, Some, refl, sym, ◌∙◌, arith}
use Rattle.std.specs.Prelude.{nat_le, nat_lt, position}
use Rattle.std.specs.List.{AllByRecursion, position_from}
use Rattle.std.proofs.lemmas.Bool.Decides.{nat_tests}
use Rattle.std.proofs.lemmas.Iterator.Adapters.{position_from-zero}
use Rattle.text_reading.specs.Faults.{broken_if, index_past, indices_where}
use Rattle.text_reading.specs.Order.{least, lesser, nat_order}
use Rattle.text_reading.proofs.OrderLaws.{lesser_assoc}

-- a number that is up to the others is the least
pub lesser_front : (n : ℕ) (ns : List ℕ) → AllByRecursion (λ m. n ≤ m) ns → lesser nat_le (Some n) (least nat_le ns) ≡ Some n
lesser_front n [] h = refl
lesser_front n (m ∷ ns) h =
    let before : nat_le n m ≡ true = grind (arith, nat_tests, h.0) in
    sym (lesser_assoc nat_le nat_order (Some n) (Some m) (least nat_le ns)) ∙ rw before (lesser_front n ns h.1)

pub from_below : (m n : ℕ) (ns : List ℕ) → m ≤ n → AllByRecursion (λ k. n ≤ k) ns → AllByRecursion (λ k. m ≤ k) ns
from_below m n [] h all = tt
from_below m n (k ∷ ns) h all = (omega (arith, all.0), from_below m n ns h all.1)

indices_from : {A : Type 0} (test : A → Bool) (n : ℕ) (xs : List A) → AllByRecursion (λ k. n ≤ k) (indices_where test n xs)
indices_from test n [] = tt
indices_from test n (x ∷ xs) = by (test x) (from_below n (n + 1) _ (omega arith) (indices_from test (n + 1) xs))
  where
    by : (b : Bool) → AllByRecursion (λ k. n ≤ k) (indices_where test (n + 1) xs) → AllByRecursion (λ k. n ≤ k) (broken_if b n ++ indices_where test (n + 1) xs)
    by true later = (omega arith, later)
    by false later = later

least_index_from : {A : Type 0} (test : A → Bool) (n : ℕ) (xs : List A) → least nat_le (indices_where test n xs) ≡ position_from test n xs
least_index_from test n [] = refl
least_index_from test n (x ∷ xs) = by (test x) (least_index_from test (n + 1) xs)
  where
    by : (b : Bool) → least nat_le (indices_where test (n + 1) xs) ≡ position_from test (n + 1) xs
        → least nat_le (broken_if b n ++ indices_where test (n + 1) xs) ≡ cond b (Some n) (position_from test (n + 1) xs)
    by true later = lesser_front n (indices_where test (n + 1) xs) (from_below n (n + 1) _ (omega arith) (indices_from test (n + 1) xs))
    by false later = later

-- the first index is the least
pub least_index : {A : Type 0} (test : A → Bool) (xs : List A) → least nat_le (indices_where test 0 xs) ≡ position test xs
least_index test xs = least_index_from test 0 xs ∙ sym (position_from-zero test xs)

-- what holds where nothing is broken

pub first_empty : {A : Type 0} (xs ys : List A) → xs ++ ys ≡ [] → xs ≡ []
first_empty [] ys e = refl
first_empty (x ∷ xs) ys e = cc

pub rest_empty : {A : Type 0} (xs ys : List A) → xs ++ ys ≡ [] → ys ≡ []
rest_empty [] ys e = e
rest_empty (x ∷ xs) ys e = cc

pub map_empty : {A B : Type 0} (f : A → B) (xs : List A) → map f xs ≡ [] → xs ≡ []
map_empty f [] e = refl
map_empty f (x ∷ xs) e = cc

pub not_broken : {P : Type 0} (b : Bool) (at : P) → broken_if b at ≡ [] → b ≡ false
not_broken true at e = cc
not_broken false at e = refl

pub none_broken : {A : Type 0} (test : A → Bool) (n : ℕ) (xs : List A) → indices_where test n xs ≡ [] → AllByRecursion (λ x. test x ≡ false) xs
none_broken test n [] e = tt
none_broken test n (x ∷ xs) e =
    (not_broken (test x) n (first_empty (broken_if (test x) n) (indices_where test (n + 1) xs) e), none_broken test (n + 1) xs (rest_empty (broken_if (test x) n) (indices_where test (n + 1) xs) e))

pub none_past : {A : Type 0} (limit : ℕ) (xs : List A) → index_past limit xs ≡ [] → length xs ≤ limit
none_past limit xs e =
    let within : nat_lt limit (length xs) ≡ false = not_broken (nat_lt limit (length xs)) limit e in
    grind (arith, nat_tests)
