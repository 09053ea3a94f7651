-- The tokens of a rule's text.
use Rattle.std.specs.Prelude.{ℕ, ◌+◌, ◌-◌, ◌==◌, ◌&&◌, ◌||◌, ◌^◌, min, Bool, List, [], ◌∷◌, ◌++◌, length, take, slice_index, Option, Some, None, if◌then◌else◌}
use Rattle.std.specs.Char.{is_ascii_digit}
use Rattle.std.specs.List.{prefix_len}
use Rattle.med_prelude.specs.Names.{continues_name, starts_name}
use Rattle.med_prelude.specs.Texts.{Bytes}
use Rattle.text_reading.specs.Lexing.{Lexeme, Lexicon, lexeme, lexemes_from}
use Rattle.text_reading.specs.Runs.{digit_run}
use Rattle.rule_reader.specs.Naming.{number_after}
use Rattle.rule_reader.specs.declared.rule.NumberOp.{NumberOp}
use Rattle.rule_reader.specs.declared.rule.NumberOp.TheVariants as op
use Rattle.rule_reader.specs.declared.token.Token.{Token}
use Rattle.rule_reader.specs.declared.token.Token.TheVariants as token

-- the greatest number that may stand in a rule
abbrev pub most_number : ℕ
most_number = 2 ^ 60

-- the number that digits write, or one past the greatest, where they write a greater one
abbrev pub number_told : Bytes → ℕ
number_told digits = min (number_after 0 digits) (most_number + 1)

-- a letter, a digit, `_` or a dot
abbrev pub continues_word : ℕ → Bool
continues_word b = continues_name b || (b == 46)

-- how many bytes that continue a word bytes begin with
abbrev pub word_run : Bytes → ℕ
word_run bytes = prefix_len continues_word bytes

abbrev pub operator_at : Bytes → Option (NumberOp × ℕ)
operator_at [] = None
operator_at (b ∷ bytes) =
    if b == 61 then Some (op.Eq, 1)
    else if (b == 33) && (slice_index bytes 0 == 61) then Some (op.Ne, 2)
    else if (b == 60) && (slice_index bytes 0 == 61) then Some (op.Le, 2)
    else if b == 60 then Some (op.Lt, 1)
    else if (b == 62) && (slice_index bytes 0 == 61) then Some (op.Ge, 2)
    else if b == 62 then Some (op.Gt, 1)
    else None

-- `(`, `)` or `,`
abbrev pub mark_at : Bytes → Option (Token × ℕ)
mark_at [] = None
mark_at (b ∷ bytes) =
    if b == 40 then Some (token.Open, 1)
    else if b == 41 then Some (token.Close, 1)
    else if b == 44 then Some (token.Comma, 1)
    else None

abbrev pub sign_at : Bytes → Option (Token × ℕ)
sign_at bytes = elim (operator_at bytes) [ Some read ↦ Some (token.Compares read.0, read.1) | None ↦ mark_at bytes ]

-- the token that bytes begin with, and its length
abbrev pub token_at : Bytes → Option (Token × ℕ)
token_at [] = None
token_at (b ∷ bytes) =
    if starts_name b then Some (token.Word (take (word_run (b ∷ bytes)) (b ∷ bytes)), word_run (b ∷ bytes))
    else if is_ascii_digit b then Some (token.Number (number_told (take (digit_run (b ∷ bytes)) (b ∷ bytes))), digit_run (b ∷ bytes))
    else sign_at (b ∷ bytes)

-- a space, the only blank
abbrev pub is_space : ℕ → Bool
is_space b = b == 32

abbrev pub lexicon : Lexicon Token
lexicon = record { is_blank = is_space; token_at = λ at bytes. token_at bytes; junk = token.Junk }

abbrev pub begins_space : Bytes → Bool
begins_space bytes = slice_index bytes 0 == 32

abbrev pub ends_space : Bytes → Bool
ends_space bytes = slice_index bytes (length bytes - 1) == 32

-- what stands for spaces at the end of a text: junk, at its length
abbrev pub end_junk : Bytes → List (Lexeme Token)
end_junk text = if ends_space text then lexeme token.Junk (length text) ∷ [] else []

-- The tokens of a text with their offsets. Spaces stand between tokens: a text that begins with one is junk, and one
-- that ends with one has junk at its end.
abbrev pub lexemes_of : Bytes → List (Lexeme Token)
lexemes_of text = if begins_space text then lexeme token.Junk 0 ∷ [] else lexemes_from lexicon 0 0 text ++ end_junk text
