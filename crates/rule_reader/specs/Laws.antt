-- What the law of the grammar says of a refusal.
use Rattle.std.specs.Prelude.{◌≡◌, ◌⊎◌, ℕ, length}
use Rattle.med_prelude.specs.Texts.{Bytes}
use Rattle.text_reading.specs.declared.checks.Broken.{Broken}
use Rattle.rule_reader.specs.Grammar.{BreaksAt, PassesAt, no_limits, rule_limits}
use Rattle.rule_reader.specs.Machine.{not_the_grammar, over_a_limit}
use Rattle.rule_reader.specs.Tokens.{lexemes_of}

-- No rule within the limits goes on with the token at the offset, though one goes on with all tokens before it. It is
-- told as no rule where no rule of any depth and any numbers goes on with it either, and as over a limit where one does.
abbrev pub IsRefused : Bytes → Broken ℕ → Type 0
IsRefused text told =
    BreaksAt rule_limits (lexemes_of text) (length text) told.at
    × (((told.why ≡ not_the_grammar) × BreaksAt no_limits (lexemes_of text) (length text) told.at)
    ⊎ ((told.why ≡ over_a_limit) × PassesAt (lexemes_of text) told.at))
