-- A token that bytes begin with is not empty, and lies within them.
use Rattle.std.proofs.Common.{◌≡◌, ℕ, ◌+◌, ◌<◌, ◌≤◌, ◌==◌, ◌&&◌, Bool, true, false, cond, List, [], ◌∷◌, length, take, slice_index, Option, Some, None, IfSome, arith, refl, subst}
use Rattle.std.proofs.lemmas.List.{length-take}
use Rattle.med_prelude.specs.Names.{starts_name}
use Rattle.text_reading.specs.Quoted.{quoted_text}
use Rattle.text_reading.specs.Runs.{begins_integer, integer_run, name_in, name_run}
use Rattle.text_reading.proofs.QuoteLaws.{quoted_text_within}
use Rattle.tuple_core.specs.Parsing.{parsed_value}
use Rattle.tuple_core.specs.declared.columns.Kind.TheVariants as kind
use Rattle.tuple_core.specs.declared.comparing.Op.{Op}
use Rattle.tuple_core.specs.declared.comparing.Op.TheVariants as op
use Rattle.tuple_core.specs.declared.value.Value.{Value}
use Rattle.query_syntax.specs.Tokens.{constant_at, integer_at, mark_at, name_at, operator_at, sign_at, text_at, token_at, truth_in, word_at}
use Rattle.query_syntax.specs.declared.token.Token.{Token}
use Rattle.query_syntax.specs.declared.token.Token.TheVariants as token

record IsWithin {X : Type 0} (bytes : List ℕ) (read : Option (X × ℕ)) : Type 0 where
  fits : IfSome read (λ r. (0 < r.1) × (r.1 ≤ length bytes))

none_within : {X : Type 0} (bytes : List ℕ) → IsWithin {X = X} bytes None
none_within bytes = record { fits = tt }

either_within : {X : Type 0} (bytes : List ℕ) (x : X) (len : ℕ) → 0 < len → len ≤ length bytes → (test : Bool) (other : Option (X × ℕ)) → IsWithin bytes other
    → IsWithin bytes (cond test (Some (x, len)) other)
either_within bytes x len some in_bytes true other h = record { fits = (some, in_bytes) }
either_within bytes x len some in_bytes false other h = h

constant_within : (bytes : List ℕ) (at len : ℕ) → 0 < len → len ≤ length bytes → (value : Option Value) → IsWithin bytes (constant_at at len value)
constant_within bytes at len some in_bytes None = none_within bytes
constant_within bytes at len some in_bytes (Some v) = record { fits = (some, in_bytes) }

name_within : (bytes : List ℕ) (at len : ℕ) → 0 < len → len ≤ length bytes → (name : Option (List ℕ)) → IsWithin bytes (name_at at len name)
name_within bytes at len some in_bytes None = none_within bytes
name_within bytes at len some in_bytes (Some n) = record { fits = (some, in_bytes) }

word_within : (at : ℕ) (run : List ℕ) → IsWithin run (word_at at run)
unfolding truth_in
word_within at [] = none_within []
word_within at (b ∷ run) = by (truth_in (b ∷ run))
  where
    by : (value : Option Value) → IsWithin (b ∷ run) (elim value [ Some v ↦ constant_at at (length (b ∷ run)) (Some v) | None ↦ name_at at (length (b ∷ run)) (name_in (b ∷ run)) ])
    by None = name_within (b ∷ run) at (length (b ∷ run)) (omega arith) (omega arith) (name_in (b ∷ run))
    by (Some v) = constant_within (b ∷ run) at (length (b ∷ run)) (omega arith) (omega arith) (Some v)

integer_within : (at : ℕ) (run : List ℕ) → IsWithin run (integer_at at run)
integer_within at [] = none_within []
integer_within at (b ∷ run) = constant_within (b ∷ run) at (length (b ∷ run)) (omega arith) (omega arith) (parsed_value kind.Int (b ∷ run))

text_within : (at b : ℕ) (bytes : List ℕ) → IsWithin (b ∷ bytes) (text_at at bytes)
text_within at b bytes = by (quoted_text bytes) (quoted_text_within bytes (quoted_text bytes) refl)
  where
    by : (read : Option (List ℕ × ℕ)) → IfSome read (λ r. r.1 ≤ length bytes) → IsWithin (b ∷ bytes) (elim read [ None ↦ None | Some r ↦ constant_at at (r.1 + 1) (parsed_value kind.Text r.0) ])
    by None h = none_within (b ∷ bytes)
    by (Some r) h = constant_within (b ∷ bytes) at (r.1 + 1) (omega arith) (omega arith) (parsed_value kind.Text r.0)

-- a sign of two bytes
two_within : {X : Type 0} (b first second : ℕ) (bytes : List ℕ) (x : X) (other : Option (X × ℕ)) → (0 == second) ≡ false → IsWithin (b ∷ bytes) other
    → IsWithin (b ∷ bytes) (cond ((b == first) && (slice_index bytes 0 == second)) (Some (x, 2)) other)
two_within b first second [] x other none h = rw none (by (b == first))
  where
    by : (test : Bool) → IsWithin (b ∷ []) (cond (test && false) (Some (x, 2)) other)
    by true = h
    by false = h
two_within b first second (c ∷ bytes) x other none h = either_within (b ∷ c ∷ bytes) x 2 (omega arith) (omega arith) _ other h

operator_within : (bytes : List ℕ) → IsWithin bytes (operator_at bytes)
operator_within [] = none_within []
operator_within (b ∷ bytes) =
    let one = λ (o : Op). either_within (b ∷ bytes) o 1 (omega arith) (omega arith) in
    one op.Eq _ _ (two_within b 33 61 bytes op.Ne _ refl (two_within b 60 61 bytes op.Le _ refl (one op.Lt _ _ (two_within b 62 61 bytes op.Ge _ refl (one op.Gt _ _ (none_within (b ∷ bytes)))))))

mark_within : (bytes : List ℕ) → IsWithin bytes (mark_at bytes)
mark_within [] = none_within []
mark_within (b ∷ bytes) =
    let one = λ (t : Token). either_within (b ∷ bytes) t 1 (omega arith) (omega arith) in
    one token.Open _ _ (one token.Close _ _ (one token.Comma _ _ (one token.Stop _ _ (two_within b 58 45 bytes token.If _ refl (none_within (b ∷ bytes))))))

sign_within : (bytes : List ℕ) → IsWithin bytes (sign_at bytes)
sign_within bytes = by (operator_at bytes) (operator_within bytes)
  where
    by : (read : Option (Op × ℕ)) → IsWithin bytes read → IsWithin bytes (elim read [ Some r ↦ Some (token.Compares r.0, r.1) | None ↦ mark_at bytes ])
    by None h = mark_within bytes
    by (Some r) h = record { fits = h.fits }

-- the first of the bytes
front_within : (n : ℕ) (bytes : List ℕ) (read : Option (Token × ℕ)) → IsWithin (take n bytes) read → IsWithin bytes read
front_within n bytes None h = none_within bytes
front_within n bytes (Some r) h = record { fits = (h.fits.0, omega (arith, length-take n bytes, h.fits.1)) }

token_within : (at : ℕ) (bytes : List ℕ) → IsWithin bytes (token_at at bytes)
token_within at [] = none_within []
token_within at (b ∷ bytes) = by (starts_name b) (begins_integer b) (b == 34)
  where
    by : (named counted is_quote : Bool)
        → IsWithin (b ∷ bytes) (cond named (word_at at (take (name_run (b ∷ bytes)) (b ∷ bytes))) (cond counted (integer_at at (take (integer_run (b ∷ bytes)) (b ∷ bytes))) (cond is_quote (text_at at bytes) (sign_at (b ∷ bytes)))))
    by true counted is_quote = front_within (name_run (b ∷ bytes)) (b ∷ bytes) _ (word_within at (take (name_run (b ∷ bytes)) (b ∷ bytes)))
    by false true is_quote = front_within (integer_run (b ∷ bytes)) (b ∷ bytes) _ (integer_within at (take (integer_run (b ∷ bytes)) (b ∷ bytes)))
    by false false true = text_within at b bytes
    by false false false = sign_within (b ∷ bytes)

pub token_fits : (at : ℕ) (bytes : List ℕ) (t : Token) (len : ℕ) → token_at at bytes ≡ Some (t, len) → (0 < len) × (len ≤ length bytes)
token_fits at bytes t len e = (subst (IsWithin bytes) e (token_within at bytes)).fits
