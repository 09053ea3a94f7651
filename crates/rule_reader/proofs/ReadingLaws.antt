-- Reading, one token at a time.
use Rattle.std.proofs.Common.{◌≡◌, ℕ, ◌+◌, ◌<◌, ◌≤◌, nat_lt, true, false, List, [], ◌∷◌, ◌++◌, drop, length, Option, Some, None, Result, Ok, Err, arith, refl, sym, ap, ◌∙◌}
use Rattle.std.proofs.lemmas.Bool.Decides.{nat_tests}
use Rattle.text_reading.specs.Checks.{broken_at}
use Rattle.text_reading.specs.Lexing.{Lexeme, lexeme, lexemes_from}
use Rattle.text_reading.specs.declared.checks.Broken.{Broken}
use Rattle.text_reading.proofs.LexingLaws.{lexemes_from-blank, lexemes_from-junk, lexemes_from-token}
use Rattle.rule_reader.specs.Machine.{finished_rule, not_the_grammar, over_a_limit, told_step}
use Rattle.rule_reader.specs.Reading.{advance, longest_rule, rule_at_end, rule_from, rule_of, told_reading}
use Rattle.rule_reader.specs.Tokens.{begins_space, end_junk, ends_space, is_space, lexicon, token_at}
use Rattle.rule_reader.specs.declared.rule.Rule.{Rule}
use Rattle.rule_reader.specs.declared.state.State.{State}
use Rattle.rule_reader.specs.declared.state.State.TheVariants.{Start}
use Rattle.rule_reader.specs.declared.token.Token.{Token}
use Rattle.rule_reader.specs.declared.token.Token.TheVariants as token
use Rattle.rule_reader.proofs.TokenLaws.{token_fits}
use Rattle.rule_reader.proofs.JunkLaws.{told_junk}

read_dead : (size : ℕ) (s : State) (l : Lexeme Token) (ls : List (Lexeme Token)) (why : ℕ) → told_step s l.token ≡ Err why → told_reading size s (l ∷ ls) ≡ Err (broken_at why l.at)
read_dead size s l ls why e = rw (e, told_reading) refl

read_live : (size : ℕ) (s next : State) (l : Lexeme Token) (ls : List (Lexeme Token)) → told_step s l.token ≡ Ok next → told_reading size s (l ∷ ls) ≡ told_reading size next ls
read_live size s next l ls e = rw (e, told_reading) refl

module _ (text : List ℕ) where
  pub from_blank : (s : State) (at b : ℕ) (bytes : List ℕ) → is_space b ≡ true → rule_from text s at (b ∷ bytes) ≡ rule_from text s (at + 1) bytes
  unfolding rule_from
  from_blank s at b bytes e = ap (λ ls. told_reading (length text) s (ls ++ end_junk text)) (lexemes_from-blank lexicon at b bytes e)

  from_junk : (s : State) (at b : ℕ) (bytes : List ℕ) → is_space b ≡ false → token_at (b ∷ bytes) ≡ None → rule_from text s at (b ∷ bytes) ≡ Err (broken_at not_the_grammar at)
  unfolding rule_from
  from_junk s at b bytes dark e =
      ap (λ ls. told_reading (length text) s (ls ++ end_junk text)) (lexemes_from-junk lexicon at b bytes dark e)
      ∙ read_dead (length text) s (lexeme token.Junk at) (end_junk text) not_the_grammar (told_junk s)

  from_token : (s : State) (at b : ℕ) (bytes : List ℕ) (t : Token) (len : ℕ) → is_space b ≡ false → token_at (b ∷ bytes) ≡ Some (t, len)
      → rule_from text s at (b ∷ bytes) ≡ told_reading (length text) s (lexeme t at ∷ (lexemes_from lexicon 0 (at + len) (drop len (b ∷ bytes)) ++ end_junk text))
  unfolding rule_from
  from_token s at b bytes t len dark e = ap (λ ls. told_reading (length text) s (ls ++ end_junk text)) (lexemes_from-token lexicon at b len bytes t dark e (token_fits (b ∷ bytes) t len e).0)

  from_dead : (s : State) (at b : ℕ) (bytes : List ℕ) (t : Token) (len why : ℕ) → is_space b ≡ false → token_at (b ∷ bytes) ≡ Some (t, len) → told_step s t ≡ Err why
      → rule_from text s at (b ∷ bytes) ≡ Err (broken_at why at)
  from_dead s at b bytes t len why dark e none =
      from_token s at b bytes t len dark e ∙ read_dead (length text) s (lexeme t at) (lexemes_from lexicon 0 (at + len) (drop len (b ∷ bytes)) ++ end_junk text) why none

  from_live : (s next : State) (at b : ℕ) (bytes : List ℕ) (t : Token) (len : ℕ) → is_space b ≡ false → token_at (b ∷ bytes) ≡ Some (t, len) → told_step s t ≡ Ok next
      → rule_from text s at (b ∷ bytes) ≡ rule_from text next (at + len) (drop len (b ∷ bytes))
  unfolding rule_from
  from_live s next at b bytes t len dark e some =
      from_token s at b bytes t len dark e ∙ read_live (length text) s next (lexeme t at) (lexemes_from lexicon 0 (at + len) (drop len (b ∷ bytes)) ++ end_junk text) some

-- a step with the token that bytes begin with

abbrev stepped : State → Option (Token × ℕ) → Result (State × ℕ) ℕ
stepped s read = elim read [ None ↦ Err not_the_grammar | Some r ↦ elim (told_step s r.0) [ Err why ↦ Err why | Ok n ↦ Ok (n, r.1) ] ]

pub from_stuck : (text : List ℕ) (s : State) (at b : ℕ) (bytes : List ℕ) (why : ℕ) → is_space b ≡ false → advance s (b ∷ bytes) ≡ Err why → rule_from text s at (b ∷ bytes) ≡ Err (broken_at why at)
from_stuck text s at b bytes why dark none = by_token (token_at (b ∷ bytes)) refl none
  where
    by_step : (t : Token) (len : ℕ) (m : Result State ℕ) → token_at (b ∷ bytes) ≡ Some (t, len) → told_step s t ≡ m → elim m as (λ _. Result (State × ℕ) ℕ) [ Err w ↦ Err w | Ok n ↦ Ok (n, len) ] ≡ Err why
        → rule_from text s at (b ∷ bytes) ≡ Err (broken_at why at)
    by_step t len (Err w) e dead h = let same : w ≡ why = cc in from_dead text s at b bytes t len why dark e (dead ∙ ap (λ x. Err x) same)
    by_step t len (Ok next) e live h = absurd (cc)

    by_token : (read : Option (Token × ℕ)) → token_at (b ∷ bytes) ≡ read → stepped s read ≡ Err why → rule_from text s at (b ∷ bytes) ≡ Err (broken_at why at)
    by_token None e h = let same : not_the_grammar ≡ why = cc in from_junk text s at b bytes dark e ∙ ap (λ x. Err (broken_at x at)) same
    by_token (Some r) e h = by_step r.0 r.1 (told_step s r.0) e refl h

-- a step that is taken: the token, and where it leads
record Steps (s : State) (bytes : List ℕ) (next : State) (len : ℕ) : Type 0 where
  token : Token
  begins : token_at bytes ≡ Some (token, len)
  leads : told_step s token ≡ Ok next

inside : (x y : State × ℕ) → ◌≡◌ {A = Result (State × ℕ) ℕ} (Ok x) (Ok y) → x ≡ y
inside x y e = cc

steps : (s : State) (bytes : List ℕ) (next : State) (len : ℕ) → advance s bytes ≡ Ok (next, len) → Steps s bytes next len
steps s bytes next len live = by_token (token_at bytes) refl live
  where
    by_step : (t : Token) (n : ℕ) (m : Result State ℕ) → token_at bytes ≡ Some (t, n) → told_step s t ≡ m → elim m as (λ _. Result (State × ℕ) ℕ) [ Err w ↦ Err w | Ok x ↦ Ok (x, n) ] ≡ Ok (next, len) → Steps s bytes next len
    by_step t n (Err w) e dead h = absurd (cc)
    by_step t n (Ok other) e leads h =
        let same : other ≡ next = ap (λ (p : State × ℕ). p.0) (inside (other, n) (next, len) h) in
        let count : n ≡ len = ap (λ (p : State × ℕ). p.1) (inside (other, n) (next, len) h) in
        record { token = t; begins = rw count at e; leads = rw same at leads }

    by_token : (read : Option (Token × ℕ)) → token_at bytes ≡ read → stepped s read ≡ Ok (next, len) → Steps s bytes next len
    by_token None e h = absurd (cc)
    by_token (Some r) e h = by_step r.0 r.1 (told_step s r.0) e refl h

pub from_step : (text : List ℕ) (s next : State) (at b len : ℕ) (bytes : List ℕ) → is_space b ≡ false → advance s (b ∷ bytes) ≡ Ok (next, len)
    → rule_from text s at (b ∷ bytes) ≡ rule_from text next (at + len) (drop len (b ∷ bytes))
from_step text s next at b len bytes dark live = let h = steps s (b ∷ bytes) next len live in from_live text s next at b bytes h.token len dark h.begins h.leads

-- what is read of the bytes that are left is what is read of the whole

pub keeps_blank : (text : List ℕ) (s : State) (at b : ℕ) (rest after : List ℕ) (whole : Result Rule (Broken ℕ)) → rest ≡ b ∷ after → true ≡ is_space b → rule_from text s at rest ≡ whole
    → rule_from text s (at + 1) after ≡ whole
keeps_blank text s at b rest after whole parted blank so_far = sym (from_blank text s at b after (sym blank)) ∙ ap (rule_from text s at) (sym parted) ∙ so_far

pub keeps_stuck : (text : List ℕ) (s : State) (at b : ℕ) (rest after : List ℕ) (whole : Result Rule (Broken ℕ)) (read : Result (State × ℕ) ℕ) (why : ℕ) → rest ≡ b ∷ after → false ≡ is_space b
    → read ≡ advance s rest → read ≡ Err why → rule_from text s at rest ≡ whole → whole ≡ Err (broken_at why at)
keeps_stuck text s at b rest after whole read why parted dark stepped none so_far =
    sym so_far ∙ ap (rule_from text s at) parted ∙ from_stuck text s at b after why (sym dark) (ap (advance s) (sym parted) ∙ sym stepped ∙ none)

pub keeps_step : (text : List ℕ) (s next : State) (at b len : ℕ) (rest after others : List ℕ) (whole : Result Rule (Broken ℕ)) (read : Result (State × ℕ) ℕ) → rest ≡ b ∷ after → false ≡ is_space b
    → read ≡ advance s rest → read ≡ Ok (next, len) → others ≡ drop len rest → rule_from text s at rest ≡ whole
    → rule_from text next (at + len) others ≡ whole
keeps_step text s next at b len rest after others whole read parted dark stepped live left so_far =
    ap (rule_from text next (at + len)) (left ∙ ap (drop len) parted)
    ∙ sym (from_step text s next at b len after (sym dark) (ap (advance s) (sym parted) ∙ sym stepped ∙ live))
    ∙ ap (rule_from text s at) (sym parted) ∙ so_far

pub step_fits : (s next : State) (len : ℕ) (rest : List ℕ) (read : Result (State × ℕ) ℕ) → read ≡ advance s rest → read ≡ Ok (next, len) → (0 < len) × (len ≤ length rest)
step_fits s next len rest read stepped live = let h = steps s rest next len (sym stepped ∙ live) in token_fits rest h.token len h.begins

none_left : (rest : List ℕ) → length rest ≡ 0 → rest ≡ []
none_left [] e = refl
none_left (b ∷ rest) e = absurd (omega arith)

pub keeps_end : (text : List ℕ) (s : State) (at : ℕ) (rest : List ℕ) (whole : Result Rule (Broken ℕ)) → length rest ≡ 0 → at + length rest ≡ length text
    → rule_from text s at rest ≡ whole → rule_from text s (length text) [] ≡ whole
keeps_end text s at rest whole none counted so_far =
    let here : length text ≡ at = omega arith in
    ap (λ n. rule_from text s n []) here ∙ ap (rule_from text s at) (sym (none_left rest none)) ∙ so_far

-- the end of a text

pub end_space : (text : List ℕ) (s : State) → true ≡ ends_space text → rule_from text s (length text) [] ≡ Err (broken_at not_the_grammar (length text))
unfolding rule_from
end_space text s e = rw (← e) (read_dead (length text) s (lexeme token.Junk (length text)) [] not_the_grammar (told_junk s))

pub end_plain : (text : List ℕ) (s : State) (m : Option Rule) → false ≡ ends_space text → m ≡ finished_rule s → rule_from text s (length text) [] ≡ rule_at_end (length text) m
unfolding rule_from
end_plain text s m e f = rw (← e) (ap (rule_at_end (length text)) (sym f))

-- a text that is too long, one that begins with a space, and any other

pub of_long : (text : List ℕ) → longest_rule < length text → rule_of text ≡ Err (broken_at over_a_limit longest_rule)
unfolding rule_of
of_long text h = let over : nat_lt longest_rule (length text) ≡ true = grind (arith, nat_tests) in rw over refl

short : (text : List ℕ) → length text ≤ longest_rule → nat_lt longest_rule (length text) ≡ false
short text h = grind (arith, nat_tests)

pub of_space : (text : List ℕ) → length text ≤ longest_rule → true ≡ begins_space text → rule_of text ≡ Err (broken_at not_the_grammar 0)
unfolding rule_of
of_space text h e = rw (short text h, ← e) refl

pub of_text : (text : List ℕ) → length text ≤ longest_rule → false ≡ begins_space text → rule_of text ≡ rule_from text Start 0 text
unfolding rule_of rule_from
of_text text h e = rw (short text h, ← e) refl
