-- The rule that a text spells, or why and where it is refused.
use Rattle.std.specs.Prelude.{◌≡◌, ⊤, ℕ, nat_lt, List, [], ◌∷◌, ◌++◌, length, Option, Some, None, Result, Ok, Err, if◌then◌else◌}
use Rattle.med_prelude.specs.Texts.{Bytes}
use Rattle.text_reading.specs.Checks.{broken_at}
use Rattle.text_reading.specs.Lexing.{Lexeme, lexemes_from}
use Rattle.text_reading.specs.declared.checks.Broken.{Broken}
use Rattle.rule_reader.specs.Machine.{finished_rule, not_the_grammar, over_a_limit, told_step}
use Rattle.rule_reader.specs.Tokens.{end_junk, lexemes_of, lexicon, token_at}
use Rattle.rule_reader.specs.declared.reading.RuleFault.{RuleFault}
use Rattle.rule_reader.specs.declared.reading.RuleFault.TheVariants.{Refused, NoMemory}
use Rattle.rule_reader.specs.declared.rule.Rule.{Rule}
use Rattle.rule_reader.specs.declared.state.State.{State}
use Rattle.rule_reader.specs.declared.state.State.TheVariants.{Start}
use Rattle.rule_reader.specs.declared.token.Token.{Token}

-- the most bytes of a rule
abbrev pub longest_rule : ℕ
longest_rule = 4096

-- the rule, or that a text of that size ends too early
abbrev pub rule_at_end : ℕ → Option Rule → Result Rule (Broken ℕ)
rule_at_end size None = Err (broken_at not_the_grammar size)
rule_at_end size (Some r) = Ok r

-- What is read from a state on, of a text of that size: the rule at its end, or why and where the first token that isn't
-- taken is refused
abbrev pub told_reading : ℕ → State → List (Lexeme Token) → Result Rule (Broken ℕ)
told_reading size s [] = rule_at_end size (finished_rule s)
told_reading size s (l ∷ ls) = elim (told_step s l.token) [ Err why ↦ Err (broken_at why l.at) | Ok n ↦ told_reading size n ls ]

-- the state after the token that bytes begin with and the token's length, or why it is refused
abbrev pub advance : State → Bytes → Result (State × ℕ) ℕ
advance s bytes = elim (token_at bytes) [
  | None ↦ Err not_the_grammar
  | Some read ↦ elim (told_step s read.0) [ Err why ↦ Err why | Ok n ↦ Ok (n, read.1) ]
]

-- what is read from a state on, of the bytes that stand at an offset of a text, up to its end
unfoldable pub rule_from : Bytes → State → ℕ → Bytes → Result Rule (Broken ℕ)
rule_from text s at bytes = told_reading (length text) s (lexemes_from lexicon 0 at bytes ++ end_junk text)

-- The grammar's machine over the text's tokens; a text that is too long is refused at once. The law of the function
-- `grammar_is_exact` says what this is in the grammar's own words.
unfoldable pub rule_of : Bytes → Result Rule (Broken ℕ)
rule_of text =
    if nat_lt longest_rule (length text) then Err (broken_at over_a_limit longest_rule)
    else told_reading (length text) Start (lexemes_of text)

-- the rule, or the one refusal, unless memory ran out
abbrev pub GivesRule : Result Rule RuleFault → Result Rule (Broken ℕ) → Type 0
GivesRule (Ok r) reading = reading ≡ Ok r
GivesRule (Err (Refused why at)) reading = reading ≡ Err (broken_at why at)
GivesRule (Err NoMemory) reading = ⊤
