-- Texts in double quotes, in which a quote is doubled.
use Rattle.std.specs.Prelude.{◌≡◌, ℕ, ◌+◌, ◌≤◌, ◌==◌, Bool, false, [], ◌∷◌, ◌++◌, length, take, drop, Option, Some, None, if◌then◌else◌}
use Rattle.med_prelude.specs.Texts.{Bytes}

-- a double quote
abbrev pub quote : ℕ
quote = 34

-- the bytes with each quote doubled
abbrev pub with_quotes_doubled : Bytes → Bytes
with_quotes_doubled [] = []
with_quotes_doubled (b ∷ bytes) = if b == quote then quote ∷ quote ∷ with_quotes_doubled bytes else b ∷ with_quotes_doubled bytes

abbrev pub begins_quote : Bytes → Bool
begins_quote [] = false
begins_quote (b ∷ bytes) = b == quote

-- bytes in front of a text, which take so many bytes as they are written
abbrev pub with_front : Bytes → ℕ → Option (Bytes × ℕ) → Option (Bytes × ℕ)
with_front front taken None = None
with_front front taken (Some read) = Some (front ++ read.0, taken + read.1)

-- The text behind an opening quote, up to the first quote that isn't doubled, and how many bytes it takes with
-- that quote. There is none where no such quote comes.
abbrev pub quoted_text : Bytes → Option (Bytes × ℕ)
quoted_text [] = None
quoted_text (b ∷ []) = if b == quote then Some ([], 1) else None
quoted_text (b ∷ c ∷ bytes) =
    if b == quote then (if c == quote then with_front (quote ∷ []) 2 (quoted_text bytes) else Some ([], 1))
    else with_front (b ∷ []) 1 (quoted_text (c ∷ bytes))

-- the bytes are the text with its quotes doubled, a quote, and others that don't begin with a quote
pub record IsQuoted (text : Bytes) (taken : ℕ) (bytes : Bytes) : Type 0 where
  pub inside : taken ≤ length bytes
  pub written : take taken bytes ≡ with_quotes_doubled text ++ quote ∷ []
  pub ends : begins_quote (drop taken bytes) ≡ false
