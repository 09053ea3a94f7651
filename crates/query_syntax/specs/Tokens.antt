-- The tokens of a query's text.
use Rattle.std.specs.Prelude.{ℕ, ◌+◌, ◌==◌, ◌&&◌, List, [], ◌∷◌, length, take, slice_index, Option, Some, None, if◌then◌else◌}
use Rattle.med_prelude.specs.Names.{starts_name}
use Rattle.med_prelude.specs.Texts.{Bytes}
use Rattle.text_reading.specs.Lexing.{Lexeme, Lexicon, lexeme, lexemes_from}
use Rattle.text_reading.specs.Quoted.{quote, quoted_text}
use Rattle.text_reading.specs.Runs.{begins_blank, begins_integer, integer_run, is_blank, name_in, name_run}
use Rattle.tuple_core.specs.Parsing.{parsed_value}
use Rattle.tuple_core.specs.declared.columns.Kind.TheVariants as kind
use Rattle.tuple_core.specs.declared.comparing.Op.{Op}
use Rattle.tuple_core.specs.declared.comparing.Op.TheVariants as op
use Rattle.tuple_core.specs.declared.value.Value.{Value}
use Rattle.query_syntax.specs.declared.token.Token.{Token}
use Rattle.query_syntax.specs.declared.token.Token.TheVariants as token

-- the value as a token of so many bytes, where there is one
abbrev pub constant_at : ℕ → ℕ → Option Value → Option (Token × ℕ)
constant_at at len None = None
constant_at at len (Some value) = Some (token.Constant value at, len)

-- the name as a token of so many bytes, where there is one
abbrev pub name_at : ℕ → ℕ → Option (Bytes) → Option (Token × ℕ)
name_at at len None = None
name_at at len (Some name) = Some (token.Name (record { name = name; at = at }), len)

-- the truth value that a run is
unfoldable pub truth_in : Bytes → Option Value
truth_in run = parsed_value kind.Bool run

-- a run of letters, digits and `_`: a truth value or a name
abbrev pub word_at : ℕ → Bytes → Option (Token × ℕ)
word_at at run = elim (truth_in run) [
  | Some value ↦ constant_at at (length run) (Some value)
  | None ↦ name_at at (length run) (name_in run)
]

-- a run of a minus and digits
abbrev pub integer_at : ℕ → Bytes → Option (Token × ℕ)
integer_at at run = constant_at at (length run) (parsed_value kind.Int run)

-- the bytes behind an opening quote
abbrev pub text_at : ℕ → Bytes → Option (Token × ℕ)
text_at at bytes = elim (quoted_text bytes) [
  | None ↦ None
  | Some read ↦ constant_at at (read.1 + 1) (parsed_value kind.Text read.0)
]

abbrev pub operator_at : Bytes → Option (Op × ℕ)
operator_at [] = None
operator_at (b ∷ bytes) =
    if b == 61 then Some (op.Eq, 1)
    else if (b == 33) && (slice_index bytes 0 == 61) then Some (op.Ne, 2)
    else if (b == 60) && (slice_index bytes 0 == 61) then Some (op.Le, 2)
    else if b == 60 then Some (op.Lt, 1)
    else if (b == 62) && (slice_index bytes 0 == 61) then Some (op.Ge, 2)
    else if b == 62 then Some (op.Gt, 1)
    else None

-- `(`, `)`, `,`, `.` or `:-`
abbrev pub mark_at : Bytes → Option (Token × ℕ)
mark_at [] = None
mark_at (b ∷ bytes) =
    if b == 40 then Some (token.Open, 1)
    else if b == 41 then Some (token.Close, 1)
    else if b == 44 then Some (token.Comma, 1)
    else if b == 46 then Some (token.Stop, 1)
    else if (b == 58) && (slice_index bytes 0 == 45) then Some (token.If, 2)
    else None

abbrev pub sign_at : Bytes → Option (Token × ℕ)
sign_at bytes = elim (operator_at bytes) [
  | Some read ↦ Some (token.Compares read.0, read.1)
  | None ↦ mark_at bytes
]

-- the token that bytes at an offset begin with, and its length
abbrev pub token_at : ℕ → Bytes → Option (Token × ℕ)
token_at at [] = None
token_at at (b ∷ bytes) =
    if starts_name b then word_at at (take (name_run (b ∷ bytes)) (b ∷ bytes))
    else if begins_integer b then integer_at at (take (integer_run (b ∷ bytes)) (b ∷ bytes))
    else if b == quote then text_at at bytes
    else sign_at (b ∷ bytes)

abbrev pub lexicon : Lexicon Token
lexicon = record { is_blank = is_blank; token_at = token_at; junk = token.Junk }

-- The tokens of a text with their offsets. Blanks stand between tokens and after the last one: a text that begins
-- with a blank is junk.
abbrev pub lexemes_of : Bytes → List (Lexeme Token)
lexemes_of text = if begins_blank text then lexeme token.Junk 0 ∷ [] else lexemes_from lexicon 0 0 text
