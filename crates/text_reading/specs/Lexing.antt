-- The tokens of a text with their offsets.
use Rattle.std.specs.Prelude.{◌≡◌, ◌⊎◌, true, false, not, take, drop, ℕ, zero, suc, ◌+◌, ◌-◌, Bool, List, [], ◌∷◌, map, Option, Some, None, if◌then◌else◌}
use Rattle.std.specs.List.{list_all}
use Rattle.med_prelude.specs.Texts.{Bytes}

-- what a grammar takes for blanks, the token that bytes at an offset begin with and its length, and what stands for bytes that are no token
pub record Lexicon (T : Type 0) : Type 0 where
  pub is_blank : ℕ → Bool
  pub token_at : ℕ → Bytes → Option (T × ℕ)
  pub junk : T

-- a token and the offset of its first byte
pub record Lexeme (T : Type 0) : Type 0 where
  pub token : T
  pub at : ℕ

abbrev pub lexeme : {T : Type 0} → T → ℕ → Lexeme T
lexeme t offset = record { token = t; at = offset }

abbrev pub tokens : {T : Type 0} → List (Lexeme T) → List T
tokens = map (λ l. l.token)

-- The tokens of bytes that stand at an offset, of which so many at the front belong to an earlier token.
-- Where no token begins there is junk, and nothing is read after it.
abbrev pub lexemes_from : {T : Type 0} → Lexicon T → ℕ → ℕ → Bytes → List (Lexeme T)
lexemes_from x skip at [] = []
lexemes_from x (suc skip) at (b ∷ bytes) = lexemes_from x skip (at + 1) bytes
lexemes_from x zero at (b ∷ bytes) =
    if x.is_blank b then lexemes_from x zero (at + 1) bytes
    else elim (x.token_at at (b ∷ bytes)) [
      | None ↦ lexeme x.junk at ∷ []
      | Some read ↦ lexeme read.0 at ∷ lexemes_from x (read.1 - 1) (at + 1) bytes
    ]

-- the first byte is no blank
abbrev pub begins_dark : {T : Type 0} → Lexicon T → Bytes → Bool
begins_dark x [] = false
begins_dark x (b ∷ bytes) = not (x.is_blank b)

-- Blanks, then the token that the bytes begin with, and so on, and blanks at the end. Bytes that are no token are
-- the last.
abbrev pub AreTokensOf : {T : Type 0} → Lexicon T → ℕ → Bytes → List (Lexeme T) → Type 0
AreTokensOf x offset bytes [] = list_all x.is_blank bytes ≡ true
AreTokensOf x offset bytes (l ∷ ls) =
    (blanks : ℕ) × (list_all x.is_blank (take blanks bytes) ≡ true) × (begins_dark x (drop blanks bytes) ≡ true) × (l.at ≡ offset + blanks)
    × (((len : ℕ) × (x.token_at l.at (drop blanks bytes) ≡ Some (l.token, len)) × AreTokensOf x (l.at + len) (drop len (drop blanks bytes)) ls)
    ⊎ ((x.token_at l.at (drop blanks bytes) ≡ None) × (l.token ≡ x.junk) × (ls ≡ [])))
