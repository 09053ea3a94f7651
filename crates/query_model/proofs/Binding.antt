-- How a row's entries are bound, one column after another.
use Rattle.std.proofs.Common.{◌≡◌, ℕ, ◌==◌, ◌≤◌, Bool, true, false, not, ◌&&◌, ◌||◌, List, [], ◌∷◌, ◌++◌, length, take, ◌⊎◌, ⊎_elim, refl, sym, ap, ap₂, subst, ◌∙◌, append_assoc, append-nil, arith, suc, ◌+◌, ◌<◌, drop, get_or, inl, inr}
use Rattle.std.proofs.lemmas.Bool.{and_parts}
use Rattle.std.proofs.Math.Seq.{drop-cons, take-length}
use Rattle.std.proofs.lemmas.List.{drop_all, take-append-le, length-take}
use Rattle.answer_theory.specs.Bindings.{Binding, meet, consistent}
use Rattle.answer_theory.proofs.Bindings.{consistent_append}
use Rattle.answer_theory.proofs.Bools.{and_true}
use Rattle.row_match.specs.Patterns.{fits, entries_of, values_join}
use Rattle.row_match.specs.declared.pattern.Term.{Term}
use Rattle.row_match.specs.declared.pattern.Term.TheVariants as term
use Rattle.tuple_core.specs.declared.value.Value.{Value}
use Rattle.tuple_core.specs.Encoded.{value_seen}
use Rattle.query_model.specs.Walks.{entries_agree, agrees_with, binding_of}
use Rattle.query_model.specs.declared.entries.Entry.{Entry}

-- ---- one more entry

meets_one : (entries : List Entry) (v : ℕ) (x : Value) → meet values_join (binding_of entries) ((v, x) ∷ []) ≡ entries_agree entries v x
meets_one [] v x = refl
meets_one (p ∷ entries) v x = ap₂ (λ s t. s && t) (and_true (not (p.variable == v) || values_join (value_seen p.value) x)) (meets_one entries v x)

pub agrees_one : (entries : List Entry) (v : ℕ) (x : Value) → consistent values_join (binding_of entries) ≡ true
    → entries_agree entries v x ≡ agrees_with (binding_of entries) (term.Variable v ∷ []) (x ∷ [])
agrees_one entries v x e = sym (
    consistent_append values_join (binding_of entries) ((v, x) ∷ [])
    ∙ ap₂ (λ s t. (s && true) && t) e (meets_one entries v x))

-- ---- one more column

entries_cons : (t : Term) (ts : List Term) (x : Value) (xs : List Value) → entries_of (t ∷ ts) (x ∷ xs) ≡ entries_of (t ∷ []) (x ∷ []) ++ entries_of ts xs
entries_cons (term.Constant c) ts x xs = refl
entries_cons (term.Variable v) ts x xs = refl

fits_cons : (t : Term) (ts : List Term) (x : Value) (xs : List Value) → fits (t ∷ ts) (x ∷ xs) ≡ (fits (t ∷ []) (x ∷ []) && fits ts xs)
fits_cons (term.Constant c) ts x xs = ap (λ s. s && fits ts xs) (sym (and_true (values_join x c)))
fits_cons (term.Variable v) ts x xs = refl

pub inconsistent : {X : Type 0} (joins : X → X → Bool) (b c : Binding X) → consistent joins b ≡ false → consistent joins (b ++ c) ≡ false
inconsistent joins b c e = consistent_append joins b c ∙ ap (λ t. (t && consistent joins c) && meet joins b c) e

agrees_cons : (b : Binding Value) (t : Term) (ts : List Term) (x : Value) (xs : List Value)
    → agrees_with b (t ∷ ts) (x ∷ xs) ≡ (agrees_with b (t ∷ []) (x ∷ []) && agrees_with (b ++ entries_of (t ∷ []) (x ∷ [])) ts xs)
agrees_cons b t ts x xs =
    ap₂ (λ s c. s && consistent values_join c) (fits_cons t ts x xs) (ap (λ c. b ++ c) (entries_cons t ts x xs) ∙ sym (append_assoc b here more))
    ∙ go (fits (t ∷ []) (x ∷ [])) (fits ts xs) (consistent values_join (b ++ here)) (consistent values_join ((b ++ here) ++ more)) (inconsistent values_join (b ++ here) more)
  where
    here : Binding Value
    here = entries_of (t ∷ []) (x ∷ [])

    more : Binding Value
    more = entries_of ts xs

    go : (f g c d : Bool) → (c ≡ false → d ≡ false) → ((f && g) && d) ≡ ((f && c) && (g && d))
    go true g true d h = refl
    go true true false d h = h refl
    go true false false d h = refl
    go false g c d h = refl

-- ---- a row, column after column

long : {X : Type 0} (xs ys : List X) → take (length xs) ys ≡ xs → length xs ≤ length ys
long {X} xs ys e = omega (arith, length-take {A = X}, ap length e)

nothing_left : (ts : List Term) (xs : List Value) → (ts ≡ []) ⊎ (xs ≡ []) → (fits ts xs ≡ true) × (entries_of ts xs ≡ [])
nothing_left [] xs h = (refl, refl)
nothing_left (t ∷ ts) [] h = (refl, refl)
nothing_left (t ∷ ts) (x ∷ xs) h = absurd (⊎_elim (λ e. cc) (λ e. cc) h)

-- What is bound, `b`, once only these terms and values of the row are left.
pub record IsBoundSoFar (old : Binding Value) (terms : List Term) (row : List Value) (b : Binding Value) (ts : List Term) (xs : List Value) : Type 0 where
  pub agree : consistent values_join b ≡ true
  pub rest : agrees_with b ts xs ≡ agrees_with old terms row
  pub all : b ++ entries_of ts xs ≡ old ++ entries_of terms row
  pub kept : take (length old) b ≡ old

pub bound_none : (old : Binding Value) (terms : List Term) (row : List Value) → consistent values_join old ≡ true → IsBoundSoFar old terms row old terms row
bound_none old terms row e = record { agree = e; rest = refl; all = refl; kept = take-length old }

pub bound_more : (old : Binding Value) (terms : List Term) (row : List Value) (b : Binding Value) (t : Term) (ts : List Term) (x : Value) (xs : List Value)
    → IsBoundSoFar old terms row b (t ∷ ts) (x ∷ xs) → agrees_with b (t ∷ []) (x ∷ []) ≡ true
    → IsBoundSoFar old terms row (b ++ entries_of (t ∷ []) (x ∷ [])) ts xs
bound_more old terms row b t ts x xs h e = record {
  agree = (and_parts (fits (t ∷ []) (x ∷ [])) (consistent values_join (b ++ entries_of (t ∷ []) (x ∷ []))) e).1;
  rest = sym (agrees_cons b t ts x xs ∙ ap (λ s. s && agrees_with (b ++ entries_of (t ∷ []) (x ∷ [])) ts xs) e) ∙ h.rest;
  all = append_assoc b (entries_of (t ∷ []) (x ∷ [])) (entries_of ts xs) ∙ (ap (λ c. b ++ c) (sym (entries_cons t ts x xs)) ∙ h.all);
  kept = take-append-le (length old) b (entries_of (t ∷ []) (x ∷ [])) (long old b h.kept) ∙ h.kept;
}

pub bound_stops : (old : Binding Value) (terms : List Term) (row : List Value) (b : Binding Value) (t : Term) (ts : List Term) (x : Value) (xs : List Value)
    → IsBoundSoFar old terms row b (t ∷ ts) (x ∷ xs) → agrees_with b (t ∷ []) (x ∷ []) ≡ false → agrees_with old terms row ≡ false
bound_stops old terms row b t ts x xs h e = sym h.rest ∙ (agrees_cons b t ts x xs ∙ ap (λ s. s && agrees_with (b ++ entries_of (t ∷ []) (x ∷ [])) ts xs) e)

pub bound_all : (old : Binding Value) (terms : List Term) (row : List Value) (b : Binding Value) (ts : List Term) (xs : List Value)
    → IsBoundSoFar old terms row b ts xs → (ts ≡ []) ⊎ (xs ≡ []) → (agrees_with old terms row ≡ true) × (b ≡ old ++ entries_of terms row)
bound_all old terms row b ts xs h left =
    let none = nothing_left ts xs left in
    let all : b ≡ b ++ entries_of ts xs = sym (ap (λ c. b ++ c) none.1 ∙ append-nil b) in
    (sym h.rest ∙ ap₂ (λ f c. f && consistent values_join c) none.0 (sym all) ∙ h.agree, all ∙ h.all)

-- ---- the same by the number of terms that are done

module _ (old : Binding Value) (terms : List Term) (row : List Value) (b : Binding Value) (k : ℕ) (t : Term) (x : Value) (left after : List Value)
    (h : IsBoundSoFar old terms row b (drop k terms) left) (inside : k < length terms) (is : t ≡ get_or terms k t) (first : left ≡ x ∷ after) where
  terms_left : drop k terms ≡ t ∷ drop (k + 1) terms
  terms_left = drop-cons terms k t inside ∙ ap₂ (λ y n. y ∷ drop n terms) (sym is) (let s : suc k ≡ k + 1 = omega arith in s)

  here : IsBoundSoFar old terms row b (t ∷ drop (k + 1) terms) (x ∷ after)
  here = subst (λ xs. IsBoundSoFar old terms row b (t ∷ drop (k + 1) terms) xs) first (subst (λ ts. IsBoundSoFar old terms row b ts left) terms_left h)

  pub more_at : (new : Binding Value) → agrees_with b (t ∷ []) (x ∷ []) ≡ true → new ≡ b ++ entries_of (t ∷ []) (x ∷ []) → IsBoundSoFar old terms row new (drop (k + 1) terms) after
  more_at new e n = rw n (bound_more old terms row b t (drop (k + 1) terms) x after here e)

  pub stops_at : agrees_with b (t ∷ []) (x ∷ []) ≡ false → agrees_with old terms row ≡ false
  stops_at e = bound_stops old terms row b t (drop (k + 1) terms) x after here e

-- no term is left
pub terms_end : (old : Binding Value) (terms : List Term) (row : List Value) (b : Binding Value) (k : ℕ) (left : List Value) → IsBoundSoFar old terms row b (drop k terms) left
    → length terms ≤ k → (agrees_with old terms row ≡ true) × (b ≡ old ++ entries_of terms row)
terms_end old terms row b k left h past = bound_all old terms row b (drop k terms) left h (inl (drop_all k terms past))

-- no value is left
pub values_end : (old : Binding Value) (terms : List Term) (row : List Value) (b : Binding Value) (k : ℕ) (left : List Value) → IsBoundSoFar old terms row b (drop k terms) left
    → left ≡ [] → (agrees_with old terms row ≡ true) × (b ≡ old ++ entries_of terms row)
values_end old terms row b k left h none = bound_all old terms row b (drop k terms) left h (inr none)
