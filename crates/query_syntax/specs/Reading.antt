-- The query that a text spells, or the offset where it goes wrong.
use Rattle.std.specs.Prelude.{ℕ, length, Option, Some, None, Result}
use Rattle.med_prelude.specs.Texts.{Bytes}
use Rattle.text_reading.specs.Lexing.{lexemes_from}
use Rattle.text_reading.specs.Machines.{reading_by}
use Rattle.query_syntax.specs.Machine.{finished_query, step}
use Rattle.query_syntax.specs.Tokens.{lexemes_of, lexicon, token_at}
use Rattle.query_syntax.specs.declared.machine.State.{State}
use Rattle.query_syntax.specs.declared.machine.State.TheVariants.{Start}
use Rattle.query_syntax.specs.declared.syntax.Syntax.{Syntax}

-- the state that a token of so many bytes leads to
abbrev pub state_and_length : ℕ → Option State → Option (State × ℕ)
state_and_length len None = None
state_and_length len (Some next) = Some (next, len)

-- the state after the token that bytes at an offset begin with, and the token's length
abbrev pub advance : State → ℕ → Bytes → Option (State × ℕ)
advance state at bytes = elim (token_at at bytes) [ None ↦ None | Some read ↦ state_and_length read.1 (step state read.0) ]

-- what is read from a state on, of bytes that stand at an offset of a text of that size
unfoldable pub syntax_from : ℕ → State → ℕ → Bytes → Result Syntax ℕ
syntax_from size state at bytes = reading_by step finished_query size state (lexemes_from lexicon 0 at bytes)

-- The grammar's machine over the text's tokens. The law of the function `grammar_is_exact` says what this is in the
-- grammar's own words.
unfoldable pub syntax_of : Bytes → Result Syntax ℕ
syntax_of text = reading_by step finished_query (length text) Start (lexemes_of text)
