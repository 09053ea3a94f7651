-- A token that bytes begin with is not empty, and lies within them.
use Rattle.std.proofs.Common.{◌≡◌, ℕ, ◌<◌, ◌≤◌, Bool, true, false, cond, List, [], ◌∷◌, length, take, Option, Some, None, IfSome, arith, refl, subst}
use Rattle.std.proofs.lemmas.List.Sums.{prefix_len-le-length}
use Rattle.med_prelude.specs.Names.{continues_name, starts_name}
use Rattle.text_reading.specs.Runs.{name_run}
use Rattle.join_trees.specs.Tokens.{mark_token, of_length, token_at, word_token}
use Rattle.join_trees.specs.declared.token.Token.{Token}

record IsWithin (bytes : List ℕ) (read : Option (Token × ℕ)) : Type 0 where
  fits : IfSome read (λ r. (0 < r.1) × (r.1 ≤ length bytes))

length_within : (bytes : List ℕ) (len : ℕ) (m : Option Token) → 0 < len → len ≤ length bytes → IsWithin bytes (of_length len m)
length_within bytes len None some in_bytes = record { fits = tt }
length_within bytes len (Some t) some in_bytes = record { fits = (some, in_bytes) }

run_some : (b : ℕ) (bytes : List ℕ) → starts_name b ≡ true → 0 < name_run (b ∷ bytes)
unfolding continues_name
run_some b bytes e = rw e (omega arith)

token_within : (bytes : List ℕ) → IsWithin bytes (token_at bytes)
token_within [] = record { fits = tt }
token_within (b ∷ bytes) = by (starts_name b) refl
  where
    by : (t : Bool) → starts_name b ≡ t
        → IsWithin (b ∷ bytes) (cond t (of_length (name_run (b ∷ bytes)) (word_token (take (name_run (b ∷ bytes)) (b ∷ bytes)))) (of_length 1 (mark_token b)))
    by true e = length_within (b ∷ bytes) (name_run (b ∷ bytes)) (word_token (take (name_run (b ∷ bytes)) (b ∷ bytes))) (run_some b bytes e) (prefix_len-le-length continues_name (b ∷ bytes))
    by false e = length_within (b ∷ bytes) 1 (mark_token b) (omega arith) (omega arith)

pub token_fits : (bytes : List ℕ) (t : Token) (len : ℕ) → token_at bytes ≡ Some (t, len) → (0 < len) × (len ≤ length bytes)
token_fits bytes t len e = (subst (IsWithin bytes) e (token_within bytes)).fits
