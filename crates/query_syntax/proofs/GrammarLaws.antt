-- The machine fits the grammar, and so what it reads is exact.
use Rattle.std.proofs.Common.{false, ◌≡◌, ℕ, List, length, Some, None, Ok, Err, refl, sym, ap, subst}
use Rattle.text_reading.specs.Lexing.{AreTokensOf, tokens}
use Rattle.text_reading.specs.Machines.{state_after}
use Rattle.text_reading.specs.Runs.{begins_blank}
use Rattle.text_reading.proofs.LexingLaws as lexing
use Rattle.text_reading.proofs.MachineLaws as machine
use Rattle.query_syntax.proofs.TokenLaws.{token_fits}
use Rattle.query_syntax.specs.Grammar.{BreaksAt, IsQuery, IsReal, Spells, IsViable, query_tokens}
use Rattle.query_syntax.specs.Machine.{finished_query, step}
use Rattle.query_syntax.specs.Reading.{syntax_of}
use Rattle.query_syntax.specs.Tokens.{lexemes_of, lexicon}
use Rattle.query_syntax.specs.declared.machine.State.{State}
use Rattle.query_syntax.specs.declared.machine.State.TheVariants.{Start, Done}
use Rattle.query_syntax.specs.declared.syntax.Syntax.{Syntax}
use Rattle.query_syntax.specs.declared.token.Token.{Token}
use Rattle.query_syntax.proofs.Completions.{lives}
use Rattle.query_syntax.proofs.Spelled.{IsSound, Keeps, keeps, spelled}
use Rattle.query_syntax.proofs.WholeRuns.{takes}

ends : (s : State) (q : Syntax) → IsSound s → finished_query s ≡ Some q → Spells (spelled s) q
ends (Done r) q h e = let same : r ≡ q = cc in (subst IsQuery same h, ap query_tokens (sym same))
ends _ q h e = absurd (cc)

fits : machine.FitsGrammar query_tokens IsQuery IsReal step finished_query Start IsSound spelled
fits = record {
  starts = tt;
  nothing = refl;
  stays = λ s t next h e. (subst (Keeps s t) e (keeps s t h)).0;
  spells = λ s t next h e. (subst (Keeps s t) e (keeps s t h)).1;
  lives = lives;
  ends = ends;
  final = Done;
  finishes = λ q. refl;
  takes = takes;
}

pub sound : (text : List ℕ) (q : Syntax) → syntax_of text ≡ Ok q → Spells (tokens (lexemes_of text)) q
unfolding syntax_of
sound text q e = subst (machine.IsSoundReading query_tokens IsQuery IsReal step finished_query Start (lexemes_of text) (length text)) e
    (machine.reading_is_sound query_tokens IsQuery IsReal step finished_query Start IsSound spelled fits (length text) (lexemes_of text))

pub exact : (text : List ℕ) (at : ℕ) → syntax_of text ≡ Err at → BreaksAt (lexemes_of text) (length text) at
unfolding syntax_of
exact text at e = subst (machine.IsSoundReading query_tokens IsQuery IsReal step finished_query Start (lexemes_of text) (length text)) e
    (machine.reading_is_sound query_tokens IsQuery IsReal step finished_query Start IsSound spelled fits (length text) (lexemes_of text))

pub complete : (text : List ℕ) (q : Syntax) → Spells (tokens (lexemes_of text)) q → syntax_of text ≡ Ok q
unfolding syntax_of
complete text q h = machine.complete query_tokens IsQuery IsReal step finished_query Start IsSound spelled fits (length text) (lexemes_of text) q h

pub unique : (ts : List Token) (q r : Syntax) → Spells ts q → Spells ts r → q ≡ r
unique = machine.unique query_tokens IsQuery IsReal step finished_query Start IsSound spelled fits

pub live : (ts : List Token) (s : State) → state_after step Start ts ≡ Some s → IsViable ts
live = machine.state_after_lives query_tokens IsQuery IsReal step finished_query Start IsSound spelled fits

pub dead : (ts : List Token) → state_after step Start ts ≡ None → IsViable ts → ⊥
dead = machine.state_after_dies query_tokens IsQuery IsReal step finished_query Start IsSound spelled fits

pub cut : (text : List ℕ) → begins_blank text ≡ false → AreTokensOf lexicon 0 text (lexemes_of text)
cut text dark = rw dark (lexing.stand lexicon (λ at bytes t len e. (token_fits at bytes t len e).0) 0 text)
