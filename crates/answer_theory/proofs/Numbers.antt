-- Bags of numbers, and what a bag says of its items.
use Rattle.std.proofs.Common.{◌&&◌, All, zero-add, ⊎_elim, eq-or-lt_of_le, ◌≡◌, ℕ, zero, suc, ◌+◌, ◌<◌, ◌≤◌, Bool, true, false, cond, not, ◌==◌, ◌||◌, List, [], ◌∷◌, ◌++◌, Contains, refl, sym, ap, ◌∙◌, arith}
use Rattle.std.specs.List.{list_all, list_any, AllByRecursion}
use Rattle.std.proofs.lemmas.Bool.{eqb-true, ne_eqb, cases_lt, or_left, or_right}
use Rattle.std.proofs.lemmas.List.Elements.{All-from_recursion, recursion_from_All, All-contains}
use Rattle.std.proofs.lemmas.Map.Views.{Contains-from_any}
use Rattle.answer_theory.proofs.Lists.{each_then}
use Rattle.answer_theory.specs.Bags.{weight_of, SameBag, count_of, numbers_from}
use Rattle.answer_theory.proofs.Bags.{bag_trans, bag_cons, bag_from_same, bag_middle}
use Rattle.answer_theory.proofs.Bools.{nat_eq_self}

-- ---- one entry of a number

pub entry_of : (j : ℕ) (ks : List ℕ) (n : ℕ) → count_of j ks ≡ suc n → (ps : List ℕ) × (ss : List ℕ) × (ks ≡ ps ++ j ∷ ss)
entry_of j [] n e = absurd (omega (arith, e))
entry_of j (k ∷ ks) n e = go (k == j) refl e (entry_of j ks n)
  where
    go : (t : Bool) → (k == j) ≡ t → cond t 1 0 + count_of j ks ≡ suc n → (count_of j ks ≡ suc n → (ps : List ℕ) × (ss : List ℕ) × (ks ≡ ps ++ j ∷ ss))
        → (ps : List ℕ) × (ss : List ℕ) × (k ∷ ks ≡ ps ++ j ∷ ss)
    go true i h ih = ([], ks, ap (λ m. m ∷ ks) (eqb-true k j i))
    go false i h ih = let r : (ps : List ℕ) × (ss : List ℕ) × (ks ≡ ps ++ j ∷ ss) = ih (omega (arith, h)) in (k ∷ r.0, r.1, ap (λ l. k ∷ l) r.2)

pub count_of_first : (j : ℕ) (js : List ℕ) → count_of j (j ∷ js) ≡ suc (count_of j js)
count_of_first j js = ap (λ t. cond t 1 0 + count_of j js) (nat_eq_self j) ∙ omega arith

-- ---- bags of numbers are told apart by how often each number stands there

none_count_of : (ks : List ℕ) → ((n : ℕ) → count_of n ks ≡ 0) → ks ≡ []
none_count_of [] h = refl
none_count_of (k ∷ ks) h = absurd (let e : suc (count_of k ks) ≡ 0 = sym (count_of_first k ks) ∙ h k in omega (arith, e))

pub bag_counted : (js ks : List ℕ) → ((n : ℕ) → count_of n ks ≡ count_of n js) → SameBag ks js
bag_counted [] ks h = bag_from_same (none_count_of ks h)
bag_counted (j ∷ js) ks h =
    let r : (ps : List ℕ) × (ss : List ℕ) × (ks ≡ ps ++ j ∷ ss) = entry_of j ks (count_of j js) (h j ∙ count_of_first j js) in
    let front : SameBag ks (j ∷ (r.0 ++ r.1)) = bag_trans (bag_from_same r.2) (bag_middle r.0 j r.1) in
    bag_trans front (bag_cons j (bag_counted js (r.0 ++ r.1) (λ n.
    let e : count_of n (j ∷ (r.0 ++ r.1)) ≡ count_of n (j ∷ js) = sym (front.weighs (λ m. cond (m == n) 1 0)) ∙ h n in
    let d : cond (j == n) 1 0 + count_of n (r.0 ++ r.1) ≡ cond (j == n) 1 0 + count_of n js = e in omega (arith, d))))

-- ---- numbers in a row

pub count_of_other : (n k : ℕ) (ks : List ℕ) → (k ≡ n → ⊥) → count_of n (k ∷ ks) ≡ count_of n ks
count_of_other n k ks h = ap (λ t. cond t 1 0 + count_of n ks) (ne_eqb k n h) ∙ zero-add _

below_none : (n first count : ℕ) → n < first → count_of n (numbers_from first count) ≡ 0
below_none n first zero h = refl
below_none n first (suc count) h = count_of_other n first (numbers_from (suc first) count) (λ e. omega (arith, e, h)) ∙ below_none n (suc first) count (omega (arith, h))

pub count_of_from : (n first count : ℕ) → first ≤ n → n < first + count → count_of n (numbers_from first count) ≡ 1
count_of_from n first zero h k = absurd (omega (arith, h, k))
count_of_from n first (suc count) h k = ⊎_elim
    (λ e. ap (λ m. count_of m (first ∷ numbers_from (suc first) count)) (sym e) ∙ (count_of_first first (numbers_from (suc first) count) ∙ ap suc (below_none first (suc first) count (omega arith))))
    (λ l. count_of_other n first (numbers_from (suc first) count) (λ e. omega (arith, e, l)) ∙ count_of_from n (suc first) count l (omega (arith, k)))
    (eq-or-lt_of_le h)

pub count_of_beyond : (n first count : ℕ) → first + count ≤ n → count_of n (numbers_from first count) ≡ 0
count_of_beyond n first zero h = refl
count_of_beyond n first (suc count) h = count_of_other n first (numbers_from (suc first) count) (λ e. omega (arith, e, h)) ∙ count_of_beyond n (suc first) count (omega (arith, h))

count_of_large : (n count : ℕ) (ks : List ℕ) → AllByRecursion (λ k. k < count) ks → count ≤ n → count_of n ks ≡ 0
count_of_large n count [] all h = refl
count_of_large n count (k ∷ ks) all h = let d : k < count = all.0 in count_of_other n k ks (λ e. omega (arith, e, d, h)) ∙ count_of_large n count ks all.1 h

-- each number below the count stands there once, and no other
pub bag_each_once : (count : ℕ) (ks : List ℕ) → All (λ k. k < count) ks → ((n : ℕ) → n < count → count_of n ks ≡ 1) → SameBag ks (numbers_from 0 count)
bag_each_once count ks all h = bag_counted (numbers_from 0 count) ks (λ n. ⊎_elim
    (λ l. h n l ∙ sym (count_of_from n 0 count (omega arith) (omega (arith, l))))
    (λ g. count_of_large n count ks (recursion_from_All _ ks all) g ∙ sym (count_of_beyond n 0 count (omega (arith, g))))
    (cases_lt n count))

-- ---- what a bag says of its items

any_counted : {X : Type 0} (p : X → Bool) → (xs : List X) → list_any p xs ≡ not (weight_of (λ x. cond (p x) 1 0) xs == 0)
any_counted p [] = refl
any_counted p (x ∷ xs) = go (p x) (any_counted p xs)
  where
    go : (t : Bool) → list_any p xs ≡ not (weight_of (λ y. cond (p y) 1 0) xs == 0) → (t || list_any p xs) ≡ not (cond t 1 0 + weight_of (λ y. cond (p y) 1 0) xs == 0)
    go true ih = sym (ap not (ne_eqb (1 + weight_of (λ y. cond (p y) 1 0) xs) 0 (λ e. omega (arith, e))))
    go false ih = ih ∙ sym (ap (λ n. not (n == 0)) (zero-add _))

pub bag_any : {X : Type 0} (p : X → Bool) → {xs ys : List X} → SameBag xs ys → list_any p xs ≡ list_any p ys
bag_any p {xs} {ys} h = any_counted p xs ∙ (ap (λ n. not (n == 0)) (h.weighs (λ x. cond (p x) 1 0)) ∙ sym (any_counted p ys))

all_by_any : {X : Type 0} (p : X → Bool) → (xs : List X) → list_all p xs ≡ not (list_any (λ x. not (p x)) xs)
all_by_any p [] = refl
all_by_any p (x ∷ xs) = go (p x) (all_by_any p xs)
  where
    go : (t : Bool) → list_all p xs ≡ not (list_any (λ y. not (p y)) xs) → (t && list_all p xs) ≡ not (not t || list_any (λ y. not (p y)) xs)
    go true ih = ih
    go false ih = refl

pub bag_all : {X : Type 0} (p : X → Bool) → {xs ys : List X} → SameBag xs ys → list_all p xs ≡ list_all p ys
bag_all p {xs} {ys} h = all_by_any p xs ∙ (ap not (bag_any (λ x. not (p x)) h) ∙ sym (all_by_any p ys))

found_itself : {X : Type 0} (same : X → X → Bool) → ((x : X) → same x x ≡ true) → (xs : List X) → AllByRecursion (λ x. list_any (same x) xs ≡ true) xs
found_itself same r [] = tt
found_itself same r (x ∷ xs) = (or_left (same x x) (list_any (same x) xs) (r x), each_then _ _ (λ y h. or_right (same y x) (list_any (same y) xs) h) xs (found_itself same r xs))

-- where equal items can be told, a bag has the items of its other list
pub bag_contains : {X : Type 0} (same : X → X → Bool) → ((x y : X) → same x y ≡ true → x ≡ y) → ((x : X) → same x x ≡ true)
    → {xs ys : List X} → SameBag xs ys → (x : X) → Contains xs x → Contains ys x
bag_contains same d r {xs} {ys} h x c = Contains-from_any d x ys (sym (bag_any (same x) h) ∙ All-contains (λ y. list_any (same y) xs ≡ true) xs x (All-from_recursion _ xs (found_itself same r xs)) c)
