-- Reading a tree, one token at a time.
use Rattle.std.proofs.Common.{◌≡◌, ℕ, zero, suc, ◌+◌, ◌-◌, ◌<◌, ◌≤◌, Bool, true, false, cond, List, [], ◌∷◌, drop, length, Option, Some, None, arith, refl, sym, ap, ◌∙◌}
use Rattle.std.specs.Prelude.{option_and_then, option_map}
use Rattle.text_reading.specs.Lexing.{lexeme, lexemes_from, tokens}
use Rattle.text_reading.specs.Machines.{state_after}
use Rattle.text_reading.proofs.LexingLaws.{lexemes_from-blank, lexemes_from-junk, lexemes_from-token}
use Rattle.rule_reader.specs.Tokens.{is_space}
use Rattle.join_trees.specs.Machine.{advance, finished_tree, step, step_in, tree_from}
use Rattle.join_trees.specs.Shapes.{Shape}
use Rattle.join_trees.specs.Tokens.{lexicon, token_at}
use Rattle.join_trees.specs.declared.machine.Phase.{Phase}
use Rattle.join_trees.specs.declared.machine.Phase.TheVariants.{Due, Named, Read}
use Rattle.join_trees.specs.declared.machine.State.{State}
use Rattle.join_trees.specs.declared.stack.OpenJoin.{OpenJoin}
use Rattle.join_trees.specs.declared.token.Token.{Token}
use Rattle.join_trees.specs.declared.token.Token.TheVariants as token
use Rattle.join_trees.proofs.TokenLaws.{token_fits}

-- nothing takes bytes that are no token
junk_in : (p : Phase) (open_joins : List OpenJoin) (trees : List Shape) → step_in p open_joins trees token.Junk ≡ None
junk_in Due open_joins trees = refl
junk_in (Named j) open_joins trees = refl
junk_in Read [] trees = refl
junk_in Read (o ∷ open_joins) trees = refl

-- the tokens of bytes are the same wherever these stand
same_tokens : (skip at other : ℕ) (bytes : List ℕ) → tokens (lexemes_from lexicon skip at bytes) ≡ tokens (lexemes_from lexicon skip other bytes)
same_tokens skip at other [] = by skip
  where
    by : (k : ℕ) → tokens (lexemes_from lexicon k at []) ≡ tokens (lexemes_from lexicon k other [])
    by zero = refl
    by (suc k) = refl
same_tokens (suc skip) at other (b ∷ bytes) = same_tokens skip (at + 1) (other + 1) bytes
same_tokens zero at other (b ∷ bytes) = by (is_space b) (token_at (b ∷ bytes)) (λ k. same_tokens k (at + 1) (other + 1) bytes)
  where
    by : (blank : Bool) (read : Option (Token × ℕ)) → ((k : ℕ) → tokens (lexemes_from lexicon k (at + 1) bytes) ≡ tokens (lexemes_from lexicon k (other + 1) bytes))
        → tokens (cond blank (lexemes_from lexicon zero (at + 1) bytes) (elim read [ None ↦ lexeme token.Junk at ∷ [] | Some r ↦ lexeme r.0 at ∷ lexemes_from lexicon (r.1 - 1) (at + 1) bytes ]))
        ≡ tokens (cond blank (lexemes_from lexicon zero (other + 1) bytes) (elim read [ None ↦ lexeme token.Junk other ∷ [] | Some r ↦ lexeme r.0 other ∷ lexemes_from lexicon (r.1 - 1) (other + 1) bytes ]))
    by true read more = more zero
    by false None more = refl
    by false (Some r) more = ap (λ ts. r.0 ∷ ts) (more (r.1 - 1))

abbrev read_from : State → List Token → Option Shape
read_from s ts = option_and_then finished_tree (state_after step s ts)

abbrev read_after : List Token → Option State → Option Shape
read_after ts m = option_and_then finished_tree (elim m as (λ _. Option State) [ None ↦ None | Some n ↦ state_after step n ts ])

pub from_blank : (s : State) (b : ℕ) (bytes : List ℕ) → is_space b ≡ true → tree_from s (b ∷ bytes) ≡ tree_from s bytes
unfolding tree_from
from_blank s b bytes e = ap (λ ls. read_from s (tokens ls)) (lexemes_from-blank lexicon 0 b bytes e) ∙ ap (read_from s) (same_tokens 0 (0 + 1) 0 bytes)

from_junk : (s : State) (b : ℕ) (bytes : List ℕ) → is_space b ≡ false → token_at (b ∷ bytes) ≡ None → tree_from s (b ∷ bytes) ≡ None
unfolding tree_from
from_junk s b bytes dark e = ap (λ ls. read_from s (tokens ls)) (lexemes_from-junk lexicon 0 b bytes dark e) ∙ dead (junk_in s.phase s.open_joins s.trees)
  where
    dead : step s token.Junk ≡ None → read_from s (token.Junk ∷ []) ≡ None
    dead h = ap (read_after []) h

from_token : (s : State) (b : ℕ) (bytes : List ℕ) (t : Token) (len : ℕ) → is_space b ≡ false → token_at (b ∷ bytes) ≡ Some (t, len)
    → tree_from s (b ∷ bytes) ≡ read_from s (t ∷ tokens (lexemes_from lexicon 0 0 (drop len (b ∷ bytes))))
unfolding tree_from
from_token s b bytes t len dark e =
    ap (λ ls. read_from s (tokens ls)) (lexemes_from-token lexicon 0 b len bytes t dark e (token_fits (b ∷ bytes) t len e).0)
    ∙ ap (λ ts. read_from s (t ∷ ts)) (same_tokens 0 (0 + len) 0 (drop len (b ∷ bytes)))

from_dead : (s : State) (b : ℕ) (bytes : List ℕ) (t : Token) (len : ℕ) → is_space b ≡ false → token_at (b ∷ bytes) ≡ Some (t, len) → step s t ≡ None → tree_from s (b ∷ bytes) ≡ None
from_dead s b bytes t len dark e none = from_token s b bytes t len dark e ∙ dead none
  where
    dead : step s t ≡ None → read_from s (t ∷ tokens (lexemes_from lexicon 0 0 (drop len (b ∷ bytes)))) ≡ None
    dead h = ap (read_after (tokens (lexemes_from lexicon 0 0 (drop len (b ∷ bytes))))) h

from_live : (s next : State) (b : ℕ) (bytes : List ℕ) (t : Token) (len : ℕ) → is_space b ≡ false → token_at (b ∷ bytes) ≡ Some (t, len) → step s t ≡ Some next
    → tree_from s (b ∷ bytes) ≡ tree_from next (drop len (b ∷ bytes))
unfolding tree_from
from_live s next b bytes t len dark e some = from_token s b bytes t len dark e ∙ live some
  where
    live : step s t ≡ Some next → read_from s (t ∷ tokens (lexemes_from lexicon 0 0 (drop len (b ∷ bytes)))) ≡ read_from next (tokens (lexemes_from lexicon 0 0 (drop len (b ∷ bytes))))
    live h = ap (read_after (tokens (lexemes_from lexicon 0 0 (drop len (b ∷ bytes))))) h

-- a step with the token that bytes begin with

abbrev paired : ℕ → State → State × ℕ
paired len next = (next, len)

abbrev stepped : State → Option (Token × ℕ) → Option (State × ℕ)
stepped s read = elim read [ None ↦ None | Some r ↦ option_map (paired r.1) (step s r.0) ]

from_stuck : (s : State) (b : ℕ) (bytes : List ℕ) → is_space b ≡ false → advance s (b ∷ bytes) ≡ None → tree_from s (b ∷ bytes) ≡ None
from_stuck s b bytes dark none = by_token (token_at (b ∷ bytes)) refl none
  where
    by_step : (t : Token) (len : ℕ) (m : Option State) → token_at (b ∷ bytes) ≡ Some (t, len) → step s t ≡ m → option_map (paired len) m ≡ None → tree_from s (b ∷ bytes) ≡ None
    by_step t len None e dead h = from_dead s b bytes t len dark e dead
    by_step t len (Some next) e live h = absurd (cc)

    by_token : (read : Option (Token × ℕ)) → token_at (b ∷ bytes) ≡ read → stepped s read ≡ None → tree_from s (b ∷ bytes) ≡ None
    by_token None e h = from_junk s b bytes dark e
    by_token (Some r) e h = by_step r.0 r.1 (step s r.0) e refl h

-- a step that is taken: the token, and where it leads
record Steps (s : State) (bytes : List ℕ) (next : State) (len : ℕ) : Type 0 where
  token : Token
  begins : token_at bytes ≡ Some (token, len)
  leads : step s token ≡ Some next

inside : (x y : State × ℕ) → Some x ≡ Some y → x ≡ y
inside x y e = cc

steps : (s : State) (bytes : List ℕ) (next : State) (len : ℕ) → advance s bytes ≡ Some (next, len) → Steps s bytes next len
steps s bytes next len live = by_token (token_at bytes) refl live
  where
    by_step : (t : Token) (n : ℕ) (m : Option State) → token_at bytes ≡ Some (t, n) → step s t ≡ m → option_map (paired n) m ≡ Some (next, len) → Steps s bytes next len
    by_step t n None e dead h = absurd (cc)
    by_step t n (Some other) e leads h =
        let same : other ≡ next = ap (λ (p : State × ℕ). p.0) (inside (other, n) (next, len) h) in
        let count : n ≡ len = ap (λ (p : State × ℕ). p.1) (inside (other, n) (next, len) h) in
        record { token = t; begins = rw count at e; leads = rw same at leads }

    by_token : (read : Option (Token × ℕ)) → token_at bytes ≡ read → stepped s read ≡ Some (next, len) → Steps s bytes next len
    by_token None e h = absurd (cc)
    by_token (Some r) e h = by_step r.0 r.1 (step s r.0) e refl h

-- what is read of the bytes that are left is what is read of the whole

pub keeps_blank : (s : State) (b : ℕ) (rest after : List ℕ) (whole : Option Shape) → rest ≡ b ∷ after → true ≡ is_space b → tree_from s rest ≡ whole → tree_from s after ≡ whole
keeps_blank s b rest after whole parted blank so_far = sym (from_blank s b after (sym blank)) ∙ ap (tree_from s) (sym parted) ∙ so_far

pub keeps_stuck : (s : State) (b : ℕ) (rest after : List ℕ) (whole : Option Shape) (read : Option (State × ℕ)) → rest ≡ b ∷ after → false ≡ is_space b
    → read ≡ advance s rest → read ≡ None → tree_from s rest ≡ whole → None ≡ whole
keeps_stuck s b rest after whole read parted dark stepped none so_far =
    sym (from_stuck s b after (sym dark) (ap (advance s) (sym parted) ∙ sym stepped ∙ none)) ∙ ap (tree_from s) (sym parted) ∙ so_far

pub keeps_step : (s next : State) (b len : ℕ) (rest after others : List ℕ) (whole : Option Shape) (read : Option (State × ℕ)) → rest ≡ b ∷ after → false ≡ is_space b
    → read ≡ advance s rest → read ≡ Some (next, len) → others ≡ drop len rest → tree_from s rest ≡ whole → tree_from next others ≡ whole
keeps_step s next b len rest after others whole read parted dark stepped live left so_far =
    let h = steps s (b ∷ after) next len (ap (advance s) (sym parted) ∙ sym stepped ∙ live) in
    ap (tree_from next) (left ∙ ap (drop len) parted)
    ∙ sym (from_live s next b after h.token len (sym dark) h.begins h.leads)
    ∙ ap (tree_from s) (sym parted) ∙ so_far

pub step_fits : (s next : State) (len : ℕ) (rest : List ℕ) (read : Option (State × ℕ)) → read ≡ advance s rest → read ≡ Some (next, len) → (0 < len) × (len ≤ length rest)
step_fits s next len rest read stepped live = let h = steps s rest next len (sym stepped ∙ live) in token_fits rest h.token len h.begins

none_left : (rest : List ℕ) → length rest ≡ 0 → rest ≡ []
none_left [] e = refl
none_left (b ∷ rest) e = absurd (omega arith)

pub keeps_end : (s : State) (rest : List ℕ) (whole : Option Shape) → length rest ≡ 0 → tree_from s rest ≡ whole → finished_tree s ≡ whole
unfolding tree_from
keeps_end s rest whole none so_far = ap (tree_from s) (sym (none_left rest none)) ∙ so_far
