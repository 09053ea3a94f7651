-- `IsUtf8` and its test `is_utf8` agree.
use Rattle.std.proofs.Common.{◌≡◌, Bool, true, false, ℕ, List, refl}
use Rattle.std.specs.Str.{IsUtf8, is_utf8}
use Rattle.std.proofs.lemmas.Str.{IsUtf8-from_is_utf8, is_utf8-from_IsUtf8}

pub utf8_test : (bs : List ℕ) → IsUtf8 bs → is_utf8 bs ≡ true
utf8_test bs h = is_utf8-from_IsUtf8 bs h

-- a test that is not met is false
pub utf8_refuted : (bs : List ℕ) → (IsUtf8 bs → ⊥) → is_utf8 bs ≡ false
utf8_refuted bs h = cases (is_utf8 bs) refl
  where
    cases : (b : Bool) → is_utf8 bs ≡ b → is_utf8 bs ≡ false
    cases true e = absurd (h (IsUtf8-from_is_utf8 bs e))
    cases false e = e
