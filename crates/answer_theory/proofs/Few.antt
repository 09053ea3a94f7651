-- Variables below a limit, each once, are no more than the limit.
use Rattle.std.proofs.Common.{◌≡◌, ◌≢◌, ℕ, zero, suc, ◌+◌, ◌<◌, ◌≤◌, Bool, true, false, cond, not, ◌==◌, List, [], ◌∷◌, filter, length, All, refl, sym, ap, subst, ◌∙◌, arith}
use Rattle.std.specs.List.{AllByRecursion}
use Rattle.std.proofs.lemmas.Bool.{eqb-true, true≢false, false≢true, or_parts}
use Rattle.std.proofs.lemmas.List.Elements.{recursion_from_All}
use Rattle.answer_theory.specs.Rows.{AreDistinct, first_occurrences, glued_variables}
use Rattle.answer_theory.specs.Solutions.{names}
use Rattle.answer_theory.proofs.Bools.{nat_eq_self}
use Rattle.answer_theory.proofs.Lists.{each_append}
use Rattle.answer_theory.proofs.Rows.{distinct_filter, each_once_distinct, glued_distinct}

-- the other variables
abbrev others : ℕ → List ℕ → List ℕ
others n vs = filter (λ w. not (w == n)) vs

-- all are others of one that isn't among them
all_others : (n : ℕ) (vs : List ℕ) → names vs n ≡ false → length (others n vs) ≡ length vs
all_others n [] e = refl
all_others n (v ∷ vs) e = go (v == n) (or_parts (v == n) (names vs n) e).0 (all_others n vs (or_parts (v == n) (names vs n) e).1)
  where
    go : (t : Bool) → t ≡ false → length (others n vs) ≡ length vs → length (cond (not t) (v ∷ others n vs) (others n vs)) ≡ suc (length vs)
    go true h ih = absurd (true≢false h)
    go false h ih = ap suc ih

-- at most one is no other
one_gone : (n : ℕ) (vs : List ℕ) → AreDistinct vs → length vs ≤ length (others n vs) + 1
one_gone n [] d = omega arith
one_gone n (v ∷ vs) d = go (v == n) refl (one_gone n vs d.1)
  where
    go : (t : Bool) → (v == n) ≡ t → length vs ≤ length (others n vs) + 1 → suc (length vs) ≤ length (cond (not t) (v ∷ others n vs) (others n vs)) + 1
    go true e ih = let same = all_others n vs (subst (λ w. names vs w ≡ false) (eqb-true v n e) d.0) in omega (arith, same)
    go false e ih = omega (arith, ih)

-- the others of the greatest are below it
others_below : (n : ℕ) (vs : List ℕ) → AllByRecursion (λ v. v < suc n) vs → AllByRecursion (λ v. v < n) (others n vs)
others_below n [] h = tt
others_below n (v ∷ vs) h = go (v == n) refl (others_below n vs h.1)
  where
    go : (t : Bool) → (v == n) ≡ t → AllByRecursion (λ w. w < n) (others n vs) → AllByRecursion (λ w. w < n) (cond (not t) (v ∷ others n vs) (others n vs))
    go true e ih = ih
    go false e ih =
        let differs : v ≢ n = λ same. false≢true (sym e ∙ sym (ap (λ w. v == w) same) ∙ nat_eq_self v) in
        let below = h.0 in
        (omega (arith, differs, below), ih)

few : (limit : ℕ) (vs : List ℕ) → AreDistinct vs → AllByRecursion (λ v. v < limit) vs → length vs ≤ limit
few zero [] d h = omega arith
few zero (v ∷ vs) d h = absurd (let below = h.0 in omega (arith, below))
few (suc n) vs d h =
    let less = few n (others n vs) (distinct_filter (λ w. not (w == n)) vs d) (others_below n vs h) in
    let gone = one_gone n vs d in
    omega (arith, less, gone)

pub distinct_few : (limit : ℕ) (vs : List ℕ) → AreDistinct vs → All (λ v. v < limit) vs → length vs ≤ limit
distinct_few limit vs d h = few limit vs d (recursion_from_All _ vs h)

-- ---- what is made of variables below the limit

each_kept : (P : ℕ → Type 0) (test : ℕ → Bool) (vs : List ℕ) → AllByRecursion P vs → AllByRecursion P (filter test vs)
each_kept P test [] h = tt
each_kept P test (v ∷ vs) h = go (test v) (each_kept P test vs h.1)
  where
    go : (t : Bool) → AllByRecursion P (filter test vs) → AllByRecursion P (cond t (v ∷ filter test vs) (filter test vs))
    go true ih = (h.0, ih)
    go false ih = ih

each_occurrence : (P : ℕ → Type 0) (vs : List ℕ) → AllByRecursion P vs → AllByRecursion P (first_occurrences vs)
each_occurrence P [] h = tt
each_occurrence P (v ∷ vs) h = (h.0, each_kept P (λ w. not (w == v)) (first_occurrences vs) (each_occurrence P vs h.1))

pub occurrences_few : (limit : ℕ) (vs : List ℕ) → All (λ v. v < limit) vs → length (first_occurrences vs) ≤ limit
occurrences_few limit vs h = few limit (first_occurrences vs) (each_once_distinct vs) (each_occurrence _ vs (recursion_from_All _ vs h))

pub glued_few : (limit : ℕ) (us vs : List ℕ) → AreDistinct us → AreDistinct vs → All (λ v. v < limit) us → All (λ v. v < limit) vs → length (glued_variables us vs) ≤ limit
glued_few limit us vs du dv hu hv = few limit (glued_variables us vs) (glued_distinct us vs du dv)
    (each_append (λ v. v < limit) us (filter (λ v. not (names us v)) vs) (recursion_from_All _ us hu) (each_kept (λ v. v < limit) (λ v. not (names us v)) vs (recursion_from_All _ vs hv)))
