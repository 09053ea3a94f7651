-- Reading, one token at a time.
use Rattle.std.proofs.Common.{◌≡◌, ℕ, ◌+◌, ◌<◌, ◌≤◌, true, false, List, [], ◌∷◌, drop, length, Option, Some, None, Result, Err, arith, refl, sym, ap, ◌∙◌}
use Rattle.med_prelude.specs.Reading.{or_at}
use Rattle.text_reading.specs.Lexing.{Lexeme, lexeme, lexemes_from}
use Rattle.text_reading.specs.Machines.{reading_by}
use Rattle.text_reading.specs.Runs.{begins_blank, is_blank}
use Rattle.text_reading.proofs.LexingLaws.{lexemes_from-blank, lexemes_from-junk, lexemes_from-token}
use Rattle.query_syntax.specs.Machine.{finished_query, step}
use Rattle.query_syntax.specs.Reading.{advance, state_and_length, syntax_from, syntax_of}
use Rattle.query_syntax.specs.Tokens.{lexicon, token_at}
use Rattle.query_syntax.specs.declared.machine.State.{State}
use Rattle.query_syntax.specs.declared.machine.State.TheVariants.{Start, Named, HeadStart, HeadEnd, HeadClosed, PartStart, PartNamed, TermStart, TermEnd, Compared, PartEnd, Done}
use Rattle.query_syntax.specs.declared.syntax.Syntax.{Syntax}
use Rattle.query_syntax.specs.declared.token.Token.{Token}
use Rattle.query_syntax.specs.declared.token.Token.TheVariants as token
use Rattle.query_syntax.proofs.TokenLaws.{token_fits}

-- nothing takes bytes that are no token
step_junk : (s : State) → step s token.Junk ≡ None
step_junk Start = refl
step_junk (Named n) = refl
step_junk (HeadStart h) = refl
step_junk (HeadEnd h) = refl
step_junk (HeadClosed h) = refl
step_junk (PartStart b) = refl
step_junk (PartNamed b w) = refl
step_junk (TermStart b a) = refl
step_junk (TermEnd b a) = refl
step_junk (Compared b w o) = refl
step_junk (PartEnd b) = refl
step_junk (Done q) = refl

read_dead : (size : ℕ) (s : State) (l : Lexeme Token) (ls : List (Lexeme Token)) → step s l.token ≡ None → reading_by step finished_query size s (l ∷ ls) ≡ Err l.at
read_dead size s l ls e = rw (e, reading_by) refl

read_live : (size : ℕ) (s next : State) (l : Lexeme Token) (ls : List (Lexeme Token)) → step s l.token ≡ Some next → reading_by step finished_query size s (l ∷ ls) ≡ reading_by step finished_query size next ls
read_live size s next l ls e = rw (e, reading_by) refl

pub from_nothing : (size : ℕ) (s : State) (at : ℕ) → syntax_from size s at [] ≡ or_at size (finished_query s)
unfolding syntax_from
from_nothing size s at = refl

pub from_blank : (size : ℕ) (s : State) (at b : ℕ) (bytes : List ℕ) → is_blank b ≡ true → syntax_from size s at (b ∷ bytes) ≡ syntax_from size s (at + 1) bytes
unfolding syntax_from
from_blank size s at b bytes e = ap (reading_by step finished_query size s) (lexemes_from-blank lexicon at b bytes e)

from_junk : (size : ℕ) (s : State) (at b : ℕ) (bytes : List ℕ) → is_blank b ≡ false → token_at at (b ∷ bytes) ≡ None → syntax_from size s at (b ∷ bytes) ≡ Err at
unfolding syntax_from
from_junk size s at b bytes dark e = ap (reading_by step finished_query size s) (lexemes_from-junk lexicon at b bytes dark e) ∙ read_dead size s (lexeme token.Junk at) [] (step_junk s)

from_dead : (size : ℕ) (s : State) (at b : ℕ) (bytes : List ℕ) (t : Token) (len : ℕ) → is_blank b ≡ false → token_at at (b ∷ bytes) ≡ Some (t, len) → step s t ≡ None
    → syntax_from size s at (b ∷ bytes) ≡ Err at
unfolding syntax_from
from_dead size s at b bytes t len dark e none =
    ap (reading_by step finished_query size s) (lexemes_from-token lexicon at b len bytes t dark e (token_fits at (b ∷ bytes) t len e).0)
    ∙ read_dead size s (lexeme t at) (lexemes_from lexicon 0 (at + len) (drop len (b ∷ bytes))) none

from_live : (size : ℕ) (s next : State) (at b : ℕ) (bytes : List ℕ) (t : Token) (len : ℕ) → is_blank b ≡ false → token_at at (b ∷ bytes) ≡ Some (t, len) → step s t ≡ Some next
    → syntax_from size s at (b ∷ bytes) ≡ syntax_from size next (at + len) (drop len (b ∷ bytes))
unfolding syntax_from
from_live size s next at b bytes t len dark e some =
    ap (reading_by step finished_query size s) (lexemes_from-token lexicon at b len bytes t dark e (token_fits at (b ∷ bytes) t len e).0)
    ∙ read_live size s next (lexeme t at) (lexemes_from lexicon 0 (at + len) (drop len (b ∷ bytes))) some

-- a step with the token that bytes begin with

abbrev stepped : State → Option (Token × ℕ) → Option (State × ℕ)
stepped s read = elim read [ None ↦ None | Some r ↦ state_and_length r.1 (step s r.0) ]

pub from_stuck : (size : ℕ) (s : State) (at b : ℕ) (bytes : List ℕ) → is_blank b ≡ false → advance s at (b ∷ bytes) ≡ None → syntax_from size s at (b ∷ bytes) ≡ Err at
from_stuck size s at b bytes dark none = by_token (token_at at (b ∷ bytes)) refl none
  where
    by_step : (t : Token) (len : ℕ) (m : Option State) → token_at at (b ∷ bytes) ≡ Some (t, len) → step s t ≡ m → state_and_length len m ≡ None
        → syntax_from size s at (b ∷ bytes) ≡ Err at
    by_step t len None e dead h = from_dead size s at b bytes t len dark e dead
    by_step t len (Some next) e live h = absurd (cc)

    by_token : (read : Option (Token × ℕ)) → token_at at (b ∷ bytes) ≡ read → stepped s read ≡ None → syntax_from size s at (b ∷ bytes) ≡ Err at
    by_token None e h = from_junk size s at b bytes dark e
    by_token (Some r) e h = by_step r.0 r.1 (step s r.0) e refl h

-- a step that is taken: the token, and where it leads
record Steps (s : State) (at : ℕ) (bytes : List ℕ) (next : State) (len : ℕ) : Type 0 where
  token : Token
  begins : token_at at bytes ≡ Some (token, len)
  leads : step s token ≡ Some next

inside : (x y : State × ℕ) → Some x ≡ Some y → x ≡ y
inside x y e = cc

steps : (s : State) (at : ℕ) (bytes : List ℕ) (next : State) (len : ℕ) → advance s at bytes ≡ Some (next, len) → Steps s at bytes next len
steps s at bytes next len live = by_token (token_at at bytes) refl live
  where
    by_step : (t : Token) (n : ℕ) (m : Option State) → token_at at bytes ≡ Some (t, n) → step s t ≡ m → state_and_length n m ≡ Some (next, len) → Steps s at bytes next len
    by_step t n None e dead h = absurd (cc)
    by_step t n (Some other) e leads h =
        let same : other ≡ next = ap (λ (p : State × ℕ). p.0) (inside (other, n) (next, len) h) in
        let count : n ≡ len = ap (λ (p : State × ℕ). p.1) (inside (other, n) (next, len) h) in
        record { token = t; begins = rw count at e; leads = rw same at leads }

    by_token : (read : Option (Token × ℕ)) → token_at at bytes ≡ read → stepped s read ≡ Some (next, len) → Steps s at bytes next len
    by_token None e h = absurd (cc)
    by_token (Some r) e h = by_step r.0 r.1 (step s r.0) e refl h

pub advance_fits : (s : State) (at : ℕ) (bytes : List ℕ) (next : State) (len : ℕ) → advance s at bytes ≡ Some (next, len) → (0 < len) × (len ≤ length bytes)
advance_fits s at bytes next len live = let h = steps s at bytes next len live in token_fits at bytes h.token len h.begins

pub from_step : (size : ℕ) (s next : State) (at b len : ℕ) (bytes : List ℕ) → is_blank b ≡ false → advance s at (b ∷ bytes) ≡ Some (next, len)
    → syntax_from size s at (b ∷ bytes) ≡ syntax_from size next (at + len) (drop len (b ∷ bytes))
from_step size s next at b len bytes dark live = let h = steps s at (b ∷ bytes) next len live in from_live size s next at b bytes h.token len dark h.begins h.leads

-- a text that begins with a blank, and any other

pub of_blank : (text : List ℕ) → begins_blank text ≡ true → syntax_of text ≡ Err 0
unfolding syntax_of
of_blank text e = rw e refl

pub of_text : (text : List ℕ) → begins_blank text ≡ false → syntax_of text ≡ syntax_from (length text) Start 0 text
unfolding syntax_of syntax_from
of_text text e = rw e refl

-- what is read of the bytes that are left is what is read of the whole

pub keeps_blank : (size : ℕ) (s : State) (at b : ℕ) (rest after : List ℕ) (whole : Result Syntax ℕ) → rest ≡ b ∷ after → true ≡ is_blank b → syntax_from size s at rest ≡ whole
    → syntax_from size s (at + 1) after ≡ whole
keeps_blank size s at b rest after whole parted blank so_far = sym (from_blank size s at b after (sym blank)) ∙ ap (syntax_from size s at) (sym parted) ∙ so_far

pub keeps_stuck : (size : ℕ) (s : State) (at b : ℕ) (rest after : List ℕ) (whole : Result Syntax ℕ) (read : Option (State × ℕ)) → rest ≡ b ∷ after → false ≡ is_blank b
    → read ≡ advance s at rest → read ≡ None → syntax_from size s at rest ≡ whole → whole ≡ Err at
keeps_stuck size s at b rest after whole read parted dark stepped none so_far =
    sym so_far ∙ ap (syntax_from size s at) parted ∙ from_stuck size s at b after (sym dark) (ap (advance s at) (sym parted) ∙ sym stepped ∙ none)

pub keeps_step : (size : ℕ) (s next : State) (at b len : ℕ) (rest after others : List ℕ) (whole : Result Syntax ℕ) (read : Option (State × ℕ)) → rest ≡ b ∷ after → false ≡ is_blank b
    → read ≡ advance s at rest → read ≡ Some (next, len) → others ≡ drop len rest → syntax_from size s at rest ≡ whole
    → syntax_from size next (at + len) others ≡ whole
keeps_step size s next at b len rest after others whole read parted dark stepped live left so_far =
    ap (syntax_from size next (at + len)) (left ∙ ap (drop len) parted)
    ∙ sym (from_step size s next at b len after (sym dark) (ap (advance s at) (sym parted) ∙ sym stepped ∙ live))
    ∙ ap (syntax_from size s at) (sym parted) ∙ so_far

pub step_fits : (s next : State) (at len : ℕ) (rest : List ℕ) (read : Option (State × ℕ)) → read ≡ advance s at rest → read ≡ Some (next, len) → (0 < len) × (len ≤ length rest)
step_fits s next at len rest read stepped live = advance_fits s at rest next len (sym stepped ∙ live)

none_left : (rest : List ℕ) → length rest ≡ 0 → rest ≡ []
none_left [] e = refl
none_left (b ∷ rest) e = absurd (omega arith)

pub keeps_end : (size : ℕ) (s : State) (at : ℕ) (rest : List ℕ) (whole : Result Syntax ℕ) (m : Option Syntax) → length rest ≡ 0 → at + length rest ≡ size → m ≡ finished_query s
    → syntax_from size s at rest ≡ whole → whole ≡ or_at at m
keeps_end size s at rest whole m none counted end so_far =
    let here : size ≡ at = omega arith in
    sym so_far ∙ ap (syntax_from size s at) (none_left rest none) ∙ from_nothing size s at ∙ ap (λ n. or_at n (finished_query s)) here ∙ ap (or_at at) (sym end)
