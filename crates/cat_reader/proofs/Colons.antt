-- A text is split at its last colon.
use Rattle.std.proofs.Common.{◌≡◌, ◌≢◌, ℕ, zero, suc, ◌+◌, ◌<◌, ◌==◌, List, length, get_or, Option, Some, None, option_map, Bor, refl, ap, sym, ◌∙◌, inl, inr, subst, arith}
use Rattle.std.proofs.lemmas.Bool.{cases_Bool, cases_eq, eqb-true, eqb-false}
use Rattle.std.proofs.lemmas.Str.{len_utf8_ascii, IsCharBoundary-before_ascii}
use Rattle.std.proofs.lemmas.Str.Pattern.{rfind_char}
use Rattle.std.specs.Option.{MatchOption}
use Rattle.std.specs.Path.{rfind_below, rsplit_once}
use Rattle.std.specs.Str.{IsCharBoundary}
use Rattle.std.specs.Str.Pattern.{RFindsChar, SplitsAroundMatch}

-- none of the bytes before n is c
none_below : (c : ℕ) (text : List ℕ) (n : ℕ) → ((k : ℕ) → k < n → get_or text k 0 ≢ c) → rfind_below c text n ≡ None
none_below c text zero lacks = refl
none_below c text (suc n) lacks =
    elim (cases_Bool (get_or text n 0 == c)) [
      | inl same ↦ absurd (lacks n (omega arith) (eqb-true _ c same))
      | inr other ↦ rw other (none_below c text n (λ k below. lacks k (omega arith)))
    ]

-- the last c before n stands at i
last_below : (c : ℕ) (text : List ℕ) (i n : ℕ) → i < n → get_or text i 0 ≡ c → ((k : ℕ) → i < k → k < n → get_or text k 0 ≢ c) → rfind_below c text n ≡ Some i
last_below c text i zero below here later = absurd (omega arith)
last_below c text i (suc n) below here later =
    elim (cases_Bool (get_or text n 0 == c)) [
      | inl same ↦ rw same (at_end (eqb-true _ c same))
      | inr other ↦ rw other (last_below c text i n (before (eqb-false _ c other)) here (λ k after under. later k after (omega arith)))
    ]
  where
    at_end : get_or text n 0 ≡ c → Some n ≡ Some i
    at_end e = elim (cases_eq i n) [ inl same ↦ ap Some (sym same) | inr apart ↦ absurd (later n (omega arith) (omega arith) e) ]

    before : get_or text n 0 ≢ c → i < n
    before e = elim (cases_eq i n) [ inl same ↦ absurd (e (ap (λ k. get_or text k 0) (sym same) ∙ here)) | inr apart ↦ omega arith ]

-- takes the clause of `rsplit_once`
pub split_at_colon : (text : List ℕ) (r : Option (Bor (List ℕ) × Bor (List ℕ)))
    → MatchOption r (RFindsChar 58 text None) (λ x. SplitsAroundMatch (RFindsChar 58) text x.0.now x.1.now)
    → option_map (λ x. (x.0.now, x.1.now)) r ≡ rsplit_once 58 text
unfolding rsplit_once
split_at_colon text None h = rw (none_below 58 text (length text) (rfind_char 58 text None h (omega arith)))
split_at_colon text (Some x) h =
    let i = h.0 in
    let colon = h.2.1 in
    let next : h.1 ≡ i + 1 = omega (arith, colon.ends, len_utf8_ascii 58 (omega arith)) in
    let before : IsCharBoundary text i = IsCharBoundary-before_ascii text i (omega (arith, h.7)) (omega (arith, colon.byte (omega arith))) in
    let after : IsCharBoundary text h.1 = subst (IsCharBoundary text) (sym colon.ends) colon.after in
    let last = rfind_char 58 text (Some i) (h.1, h.2, h.5, before, after) (omega arith) in
    rw (last_below 58 text i (length text) last.0 last.1 last.2, h.3, h.4, next)
