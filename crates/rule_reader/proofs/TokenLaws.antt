-- A token that bytes begin with is not empty, and lies within them.
use Rattle.std.proofs.Common.{◌≡◌, ℕ, ◌<◌, ◌≤◌, ◌==◌, ◌&&◌, Bool, true, false, cond, List, [], ◌∷◌, length, take, Option, Some, None, IfSome, arith, refl, subst}
use Rattle.std.specs.Char.{is_ascii_digit}
use Rattle.std.specs.List.{prefix_len}
use Rattle.std.specs.Prelude.{slice_index}
use Rattle.std.proofs.lemmas.List.Sums.{prefix_len-le-length}
use Rattle.med_prelude.specs.Names.{continues_name, starts_name}
use Rattle.text_reading.specs.Runs.{digit_run}
use Rattle.rule_reader.specs.Tokens.{continues_word, mark_at, number_told, operator_at, sign_at, token_at, word_run}
use Rattle.rule_reader.specs.declared.rule.NumberOp.{NumberOp}
use Rattle.rule_reader.specs.declared.rule.NumberOp.TheVariants as op
use Rattle.rule_reader.specs.declared.token.Token.{Token}
use Rattle.rule_reader.specs.declared.token.Token.TheVariants as token

record IsWithin {X : Type 0} (bytes : List ℕ) (read : Option (X × ℕ)) : Type 0 where
  fits : IfSome read (λ r. (0 < r.1) × (r.1 ≤ length bytes))

none_within : {X : Type 0} (bytes : List ℕ) → IsWithin {X = X} bytes None
none_within bytes = record { fits = tt }

either_within : {X : Type 0} (bytes : List ℕ) (x : X) (len : ℕ) → 0 < len → len ≤ length bytes → (test : Bool) (other : Option (X × ℕ)) → IsWithin bytes other
    → IsWithin bytes (cond test (Some (x, len)) other)
either_within bytes x len some in_bytes true other h = record { fits = (some, in_bytes) }
either_within bytes x len some in_bytes false other h = h

-- a run whose first byte passes has a byte
run_some : (p : ℕ → Bool) (b : ℕ) (bytes : List ℕ) → p b ≡ true → 0 < prefix_len p (b ∷ bytes)
run_some p b bytes e = rw e (omega arith)

run_within : {X : Type 0} (p : ℕ → Bool) (b : ℕ) (bytes : List ℕ) (x : X) → p b ≡ true → IsWithin (b ∷ bytes) (Some (x, prefix_len p (b ∷ bytes)))
run_within p b bytes x e = record { fits = (run_some p b bytes e, prefix_len-le-length p (b ∷ bytes)) }

starts_continues : (b : ℕ) → starts_name b ≡ true → continues_word b ≡ true
unfolding continues_name
starts_continues b e = rw e refl

-- a sign of two bytes
two_within : {X : Type 0} (b first second : ℕ) (bytes : List ℕ) (x : X) (other : Option (X × ℕ)) → (0 == second) ≡ false → IsWithin (b ∷ bytes) other
    → IsWithin (b ∷ bytes) (cond ((b == first) && (slice_index bytes 0 == second)) (Some (x, 2)) other)
two_within b first second [] x other none h = rw none (by (b == first))
  where
    by : (test : Bool) → IsWithin (b ∷ []) (cond (test && false) (Some (x, 2)) other)
    by true = h
    by false = h
two_within b first second (c ∷ bytes) x other none h = either_within (b ∷ c ∷ bytes) x 2 (omega arith) (omega arith) _ other h

operator_within : (bytes : List ℕ) → IsWithin bytes (operator_at bytes)
operator_within [] = none_within []
operator_within (b ∷ bytes) =
    let one = λ (o : NumberOp). either_within (b ∷ bytes) o 1 (omega arith) (omega arith) in
    one op.Eq _ _ (two_within b 33 61 bytes op.Ne _ refl (two_within b 60 61 bytes op.Le _ refl (one op.Lt _ _ (two_within b 62 61 bytes op.Ge _ refl (one op.Gt _ _ (none_within (b ∷ bytes)))))))

mark_within : (bytes : List ℕ) → IsWithin bytes (mark_at bytes)
mark_within [] = none_within []
mark_within (b ∷ bytes) =
    let one = λ (t : Token). either_within (b ∷ bytes) t 1 (omega arith) (omega arith) in
    one token.Open _ _ (one token.Close _ _ (one token.Comma _ _ (none_within (b ∷ bytes))))

sign_within : (bytes : List ℕ) → IsWithin bytes (sign_at bytes)
sign_within bytes = by (operator_at bytes) (operator_within bytes)
  where
    by : (read : Option (NumberOp × ℕ)) → IsWithin bytes read → IsWithin bytes (elim read [ Some r ↦ Some (token.Compares r.0, r.1) | None ↦ mark_at bytes ])
    by None h = mark_within bytes
    by (Some r) h = record { fits = h.fits }

token_within : (bytes : List ℕ) → IsWithin bytes (token_at bytes)
token_within [] = none_within []
token_within (b ∷ bytes) = by_word (starts_name b) refl
  where
    by_digit : (t : Bool) → is_ascii_digit b ≡ t → IsWithin (b ∷ bytes) (cond t (Some (token.Number (number_told (take (digit_run (b ∷ bytes)) (b ∷ bytes))), digit_run (b ∷ bytes))) (sign_at (b ∷ bytes)))
    by_digit true e = run_within is_ascii_digit b bytes (token.Number (number_told (take (digit_run (b ∷ bytes)) (b ∷ bytes)))) e
    by_digit false e = sign_within (b ∷ bytes)

    by_word : (t : Bool) → starts_name b ≡ t
        → IsWithin (b ∷ bytes) (cond t (Some (token.Word (take (word_run (b ∷ bytes)) (b ∷ bytes)), word_run (b ∷ bytes)))
        (cond (is_ascii_digit b) (Some (token.Number (number_told (take (digit_run (b ∷ bytes)) (b ∷ bytes))), digit_run (b ∷ bytes))) (sign_at (b ∷ bytes))))
    by_word true e = run_within continues_word b bytes (token.Word (take (word_run (b ∷ bytes)) (b ∷ bytes))) (starts_continues b e)
    by_word false e = by_digit (is_ascii_digit b) refl

pub token_fits : (bytes : List ℕ) (t : Token) (len : ℕ) → token_at bytes ≡ Some (t, len) → (0 < len) × (len ≤ length bytes)
token_fits bytes t len e = (subst (IsWithin bytes) e (token_within bytes)).fits
