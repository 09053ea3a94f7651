-- The next place that passes a test.
use Rattle.std.proofs.Common.{◌≡◌, ◌<◌, ◌≤◌, ◌+◌, ◌-◌, ◌++◌, ℕ, zero, suc, Bool, true, false, cond, List, [], ◌∷◌, length, get_or, drop, Option, Some, None, max, inl, inr, refl, sym, ap, subst, ◌∙◌, arith}
use Rattle.std.specs.List.{position_from}
use Rattle.std.proofs.lemmas.Bool.{cases_lt, cases_order, false≢true}
use Rattle.std.proofs.lemmas.List.{get_or-drop, get_or_append_left, get_or_push, length-drop, length_push}
use Rattle.bucket_store.specs.Places.{next_place}

-- the place is the first from `from` on that passes
pub record IsNext {X : Type 0} (test : X → Bool) (xs : List X) (from : ℕ) (d : X) (place : ℕ) : Type 0 where
  pub after : from ≤ place
  pub inside : place < length xs
  pub passes : test (get_or xs place d) ≡ true
  pub first : (k : ℕ) → from ≤ k → k < place → test (get_or xs k d) ≡ false

abbrev pub HasNext : {X : Type 0} → (X → Bool) → List X → ℕ → X → Option ℕ → Type 0
HasNext test xs from d None = (k : ℕ) → from ≤ k → k < length xs → test (get_or xs k d) ≡ false
HasNext test xs from d (Some place) = IsNext test xs from d place

-- ---- what the definition gives

abbrev Found : {X : Type 0} → (X → Bool) → ℕ → List X → X → Option ℕ → Type 0
Found test i ys d None = (k : ℕ) → k < length ys → test (get_or ys k d) ≡ false
Found test i ys d (Some place) = (k : ℕ) × (place ≡ i + k) × (k < length ys) × (test (get_or ys k d) ≡ true) × ((j : ℕ) → j < k → test (get_or ys j d) ≡ false)

found_step : {X : Type 0} (test : X → Bool) (i : ℕ) (y : X) (ys : List X) (d : X) (b : Bool) → test y ≡ b → (o : Option ℕ) → Found test (i + 1) ys d o → Found test i (y ∷ ys) d (cond b (Some i) o)
found_step test i y ys d true e o h = (0, omega arith, omega arith, e, λ j l. absurd (omega (arith, l)))
found_step {X} test i y ys d false e None h = go
  where
    go : (k : ℕ) → k < length (y ∷ ys) → test (get_or (y ∷ ys) k d) ≡ false
    go zero l = e
    go (suc k) l = h k (omega arith)
found_step {X} test i y ys d false e (Some place) h = (suc h.0, (let p = h.1 in omega arith), (let l = h.2 in omega arith), h.3, go)
  where
    go : (j : ℕ) → j < suc h.0 → test (get_or (y ∷ ys) j d) ≡ false
    go zero l = e
    go (suc j) l = h.4 j (omega arith)

found : {X : Type 0} (test : X → Bool) (i : ℕ) (ys : List X) (d : X) → Found test i ys d (position_from test i ys)
found test i [] d = λ k l. absurd (omega (arith, l))
found test i (y ∷ ys) d = found_step test i y ys d (test y) refl (position_from test (i + 1) ys) (found test (i + 1) ys d)

has_found : {X : Type 0} (test : X → Bool) (xs : List X) (from : ℕ) (d : X) (o : Option ℕ) → Found test from (drop from xs) d o → HasNext test xs from d o
has_found test xs from d None h = λ k a l.
    subst (λ n. test (get_or xs n d) ≡ false) (let e : from + (k - from) ≡ k = omega arith in e)
    (subst (λ x. test x ≡ false) (get_or-drop from xs (k - from) d) (h (k - from) (omega (arith, length-drop from xs))))
has_found test xs from d (Some place) h = record {
  after = let e = h.1 in omega arith;
  inside = let e = h.1 in let l = h.2 in omega (arith, length-drop from xs);
  passes = subst (λ n. test (get_or xs n d) ≡ true) (sym h.1) (subst (λ x. test x ≡ true) (get_or-drop from xs h.0 d) h.3);
  first = λ k a l.
      subst (λ n. test (get_or xs n d) ≡ false) (let e : from + (k - from) ≡ k = omega arith in e)
      (subst (λ x. test x ≡ false) (get_or-drop from xs (k - from) d) (h.4 (k - from) (let e = h.1 in omega arith)));
}

pub has_next : {X : Type 0} (test : X → Bool) (xs : List X) (from : ℕ) (d : X) → HasNext test xs from d (next_place test xs from)
has_next test xs from d = has_found test xs from d (next_place test xs from) (found test from (drop from xs) d)

-- ---- there is one answer

pub one_next : {X : Type 0} (test : X → Bool) (xs : List X) (from : ℕ) (d : X) (o p : Option ℕ) → HasNext test xs from d o → HasNext test xs from d p → o ≡ p
one_next test xs from d None None h k = refl
one_next test xs from d None (Some p) h k = absurd (false≢true (sym (h p k.after k.inside) ∙ k.passes))
one_next test xs from d (Some o) None h k = absurd (false≢true (sym (k o h.after h.inside) ∙ h.passes))
one_next test xs from d (Some o) (Some p) h k = elim (cases_order o p) [
  | inl same ↦ ap Some same
  | inr (inl below) ↦ absurd (false≢true (sym (k.first o h.after below) ∙ h.passes))
  | inr (inr above) ↦ absurd (false≢true (sym (h.first p k.after above) ∙ k.passes))
]

pub next_is : {X : Type 0} (test : X → Bool) (xs : List X) (from : ℕ) (d : X) (o : Option ℕ) → HasNext test xs from d o → next_place test xs from ≡ o
next_is test xs from d o h = one_next test xs from d (next_place test xs from) o (has_next test xs from d) h

pub is_next : {X : Type 0} (test : X → Bool) (xs : List X) (from : ℕ) (d : X) (place : ℕ) → next_place test xs from ≡ Some place → IsNext test xs from d place
is_next test xs from d place e = subst (HasNext test xs from d) e (has_next test xs from d)

pub none_next : {X : Type 0} (test : X → Bool) (xs : List X) (from : ℕ) (d : X) → next_place test xs from ≡ None → HasNext test xs from d None
none_next test xs from d e = subst (HasNext test xs from d) e (has_next test xs from d)

pub next_past : {X : Type 0} (test : X → Bool) (xs : List X) (from : ℕ) (d : X) → length xs ≤ from → next_place test xs from ≡ None
next_past test xs from d past = next_is test xs from d None (λ k a l. absurd (omega arith))

-- ---- one item more at the end

pub more_some : {X : Type 0} (test : X → Bool) (xs : List X) (y : X) (from : ℕ) (place : ℕ) → next_place test xs from ≡ Some place → next_place test (xs ++ y ∷ []) from ≡ Some place
more_some test xs y from place e =
    let h = is_next test xs from y place e in
    next_is test (xs ++ y ∷ []) from y (Some place) (record {
      after = h.after;
      inside = let l = h.inside in omega (arith, length_push xs y);
      passes = subst (λ x. test x ≡ true) (sym (get_or_append_left xs (y ∷ []) y place h.inside)) h.passes;
      first = λ k a l. subst (λ x. test x ≡ false) (sym (get_or_append_left xs (y ∷ []) y k (let i = h.inside in omega arith))) (h.first k a l);
    })

pub more_passes : {X : Type 0} (test : X → Bool) (xs : List X) (y : X) (from : ℕ) → next_place test xs from ≡ None → from ≤ length xs → test y ≡ true → next_place test (xs ++ y ∷ []) from ≡ Some (length xs)
more_passes test xs y from e a passes =
    let h = none_next test xs from y e in
    next_is test (xs ++ y ∷ []) from y (Some (length xs)) (record {
      after = a;
      inside = omega (arith, length_push xs y);
      passes = subst (λ x. test x ≡ true) (sym (get_or_push xs y y (length xs) refl)) passes;
      first = λ k b l. subst (λ x. test x ≡ false) (sym (get_or_append_left xs (y ∷ []) y k l)) (h k b l);
    })

pub more_fails : {X : Type 0} (test : X → Bool) (xs : List X) (y : X) (from : ℕ) → next_place test xs from ≡ None → test y ≡ false → next_place test (xs ++ y ∷ []) from ≡ None
more_fails {X} test xs y from e fails = next_is test (xs ++ y ∷ []) from y None go
  where
    go : (k : ℕ) → from ≤ k → k < length (xs ++ y ∷ []) → test (get_or (xs ++ y ∷ []) k y) ≡ false
    go k a l = elim (cases_lt k (length xs)) [
      | inl inside ↦ subst (λ x. test x ≡ false) (sym (get_or_append_left xs (y ∷ []) y k inside)) (none_next test xs from y e k a inside)
      | inr past ↦ subst (λ x. test x ≡ false) (sym (get_or_push xs y y k (omega (arith, length_push xs y)))) fails
    ]

-- ---- what passes a test passes a wider one too: the way goes by the wider one

pub Narrows : {X : Type 0} → (X → Bool) → (X → Bool) → Type 0
Narrows {X} test wide = (x : X) → test x ≡ true → wide x ≡ true

fails_too : {X : Type 0} (test wide : X → Bool) → ((x : X) → test x ≡ true → wide x ≡ true) → (x : X) → wide x ≡ false → test x ≡ false
fails_too test wide narrows x e = elim (test x) as (λ b. test x ≡ b → b ≡ false) [
  | true ↦ λ t. absurd (false≢true (sym e ∙ narrows x t))
  | false ↦ λ t. refl
] refl

-- nothing is left on the way
pub way_ends : {X : Type 0} (test wide : X → Bool) → ((x : X) → test x ≡ true → wide x ≡ true) → (xs : List X) (start from : ℕ) (d : X) → next_place wide xs start ≡ None → next_place test xs (max start from) ≡ None
way_ends test wide narrows xs start from d e = next_is test xs (max start from) d None (λ k a l. fails_too test wide narrows _ (none_next wide xs start d e k (omega arith) l))

-- what is on the way is what is looked for
pub way_found : {X : Type 0} (test wide : X → Bool) → ((x : X) → test x ≡ true → wide x ≡ true) → (xs : List X) (start from place : ℕ) (d : X) → next_place wide xs start ≡ Some place → from ≤ place → test (get_or xs place d) ≡ true → next_place test xs (max start from) ≡ Some place
way_found test wide narrows xs start from place d e a passes =
    let h = is_next wide xs start d place e in
    next_is test xs (max start from) d (Some place) (record {
      after = let b = h.after in omega arith;
      inside = h.inside;
      passes = passes;
      first = λ k b l. fails_too test wide narrows _ (h.first k (omega arith) l);
    })

-- what is on the way stands before the place
pub way_before : {X : Type 0} (test wide : X → Bool) → ((x : X) → test x ≡ true → wide x ≡ true) → (xs : List X) (start from place : ℕ) (d : X) → next_place wide xs start ≡ Some place → place < from → next_place test xs (max start from) ≡ next_place test xs (max (place + 1) from)
way_before test wide narrows xs start from place d e below =
    let h = is_next wide xs start d place e in
    ap (next_place test xs) (let b = h.after in let same : max start from ≡ max (place + 1) from = omega arith in same)

-- what is on the way fails
pub way_passed : {X : Type 0} (test wide : X → Bool) → ((x : X) → test x ≡ true → wide x ≡ true) → (xs : List X) (start from place : ℕ) (d : X) → next_place wide xs start ≡ Some place → from ≤ place → test (get_or xs place d) ≡ false → next_place test xs (max start from) ≡ next_place test xs (max (place + 1) from)
way_passed {X} test wide narrows xs start from place d e a fails =
    one_next test xs (max start from) d (next_place test xs (max start from)) (next_place test xs (max (place + 1) from))
    (has_next test xs (max start from) d)
    (moved (next_place test xs (max (place + 1) from)) (has_next test xs (max (place + 1) from) d))
  where
    here : IsNext wide xs start d place
    here = is_next wide xs start d place e

    skipped : (k : ℕ) → max start from ≤ k → k < place + 1 → test (get_or xs k d) ≡ false
    skipped k b l = elim (cases_lt k place) [
      | inl before ↦ fails_too test wide narrows _ (here.first k (omega arith) before)
      | inr at ↦ subst (λ n. test (get_or xs n d) ≡ false) (let same : place ≡ k = omega arith in same) fails
    ]

    failed : (k : ℕ) → max start from ≤ k → ((max (place + 1) from) ≤ k → test (get_or xs k d) ≡ false) → test (get_or xs k d) ≡ false
    failed k b later = elim (cases_lt k (place + 1)) [
      | inl before ↦ skipped k b before
      | inr after ↦ later (omega arith)
    ]

    moved : (o : Option ℕ) → HasNext test xs (max (place + 1) from) d o → HasNext test xs (max start from) d o
    moved None h = λ k b l. failed k b (λ c. h k c l)
    moved (Some p) h = record {
      after = let x = h.after in let y = here.after in omega arith;
      inside = h.inside;
      passes = h.passes;
      first = λ k b l. failed k b (λ c. h.first k c l);
    }

-- a place that fails is passed
pub next_behind : {X : Type 0} (test : X → Bool) (xs : List X) (place : ℕ) (d : X) → test (get_or xs place d) ≡ false → next_place test xs place ≡ next_place test xs (place + 1)
next_behind {X} test xs place d fails =
    one_next test xs place d (next_place test xs place) (next_place test xs (place + 1)) (has_next test xs place d)
    (moved (next_place test xs (place + 1)) (has_next test xs (place + 1) d))
  where
    failed : (k : ℕ) → place ≤ k → (place + 1 ≤ k → test (get_or xs k d) ≡ false) → test (get_or xs k d) ≡ false
    failed k b later = elim (cases_lt place k) [
      | inl after ↦ later (omega arith)
      | inr at ↦ subst (λ n. test (get_or xs n d) ≡ false) (let same : place ≡ k = omega arith in same) fails
    ]

    moved : (o : Option ℕ) → HasNext test xs (place + 1) d o → HasNext test xs place d o
    moved None h = λ k b l. failed k b (λ c. h k c l)
    moved (Some p) h = record {
      after = let x = h.after in omega arith;
      inside = h.inside;
      passes = h.passes;
      first = λ k b l. failed k b (λ c. h.first k c l);
    }
