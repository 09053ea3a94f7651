-- How much is left to do: it falls with each step that moves.
use Rattle.std.proofs.Common.{◌≡◌, ℕ, ◌+◌, ◌-◌, ◌<◌, ◌≤◌, ◌⊎◌, inl, inr, Bool, true, false, List, [], ◌∷◌, length, refl, ap, ◌∙◌, arith}
use Rattle.med_base.specs.declared.member.MemberState.{MemberState}
use Rattle.med_base.specs.declared.member.MemberState.TheVariants as state
use Rattle.med_base.specs.declared.outside.source.Source.{Ghosts as Source}
use Rattle.collect_core.specs.Reading.{Reader, end_to_come, most_rows, reader_left, some_kept, unless_over}

-- what is left while the source is read
abbrev pub reading_left : ℕ → ℕ → ℕ → ℕ → ℕ
reading_left accepted left kept end = (most_rows - accepted) + left + kept + end + 1

pub left_active : {S M : Type 0} (source : Source S M) (r : Reader S) → r.state ≡ state.Active
    → reader_left source r ≡ reading_left r.accepted (source.left r.wrapper.source) (some_kept r.wrapper.kept) (end_to_come r.wrapper.ahead.framed.ended)
left_active source r active = ap (λ st. unless_over st (reading_left r.accepted (source.left r.wrapper.source) (some_kept r.wrapper.kept) (end_to_come r.wrapper.ahead.framed.ended))) active

pub left_over : {S M : Type 0} (source : Source S M) (r : Reader S) (st : MemberState) → r.state ≡ st → ((n : ℕ) → unless_over st n ≡ 0) → reader_left source r ≡ 0
left_over source r st e over =
    let n = reading_left r.accepted (source.left r.wrapper.source) (some_kept r.wrapper.kept) (end_to_come r.wrapper.ahead.framed.ended) in
    ap (λ t. unless_over t n) e ∙ over n

-- numbers alone

pub less_by_row : (m a l k e : ℕ) → a + 1 ≤ m → (m - (a + 1)) + l + k + e + 1 < (m - a) + l + k + e + 1
less_by_row m a l k e h = omega arith

kept_one : (bytes : List ℕ) → 0 < length bytes → some_kept bytes ≡ 1
kept_one [] h = absurd (omega arith)
kept_one (byte ∷ bytes) h = refl

no_kept : (bytes : List ℕ) → bytes ≡ [] → some_kept bytes ≡ 0
no_kept bytes e = ap some_kept e

told_end : (told : Bool) → told ≡ true → end_to_come told ≡ 0
told_end told e = ap end_to_come e

untold_end : (told : Bool) → told ≡ false → end_to_come told ≡ 1
untold_end told e = ap end_to_come e

later_end : (told : Bool) → (told ≡ true → ⊥) → end_to_come told ≡ 1
later_end true h = absurd (h refl)
later_end false h = refl

module _ (a l' l : ℕ) (kept' kept : List ℕ) (told' told : Bool) (fewer : l' ≤ l) (fed : kept' ≡ []) (later : told ≡ true → ⊥) where
  abbrev was : ℕ
  was = reading_left a l (some_kept kept) (end_to_come told)

  abbrev is : ℕ
  is = reading_left a l' (some_kept kept') (end_to_come told')

  bytes_less : told' ≡ false → (l' + 1 ≤ l) ⊎ ((0 < length kept) × (kept' ≡ [])) → is < was
  bytes_less untold (inl less) =
      let k = no_kept kept' fed in
      let e' = untold_end told' untold in
      let e = later_end told later in
      omega arith
  bytes_less untold (inr some) =
      let k = no_kept kept' fed in
      let k1 = kept_one kept some.0 in
      let e' = untold_end told' untold in
      let e = later_end told later in
      omega arith

  pub moved_less : ((told' ≡ false) × ((l' + 1 ≤ l) ⊎ ((0 < length kept) × (kept' ≡ [])))) ⊎ (told' ≡ true) → is < was
  moved_less (inl bytes) = bytes_less bytes.0 bytes.1
  moved_less (inr ended) =
      let k = no_kept kept' fed in
      let e' = told_end told' ended in
      let e = later_end told later in
      omega arith

  pub still_no_more : told' ≡ false → is ≤ was
  still_no_more untold =
      let k = no_kept kept' fed in
      let e' = untold_end told' untold in
      let e = later_end told later in
      omega arith
