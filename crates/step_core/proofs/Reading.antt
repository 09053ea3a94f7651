-- What becomes of the members of an atom, one after another.
use Rattle.std.proofs.Common.{◌≡◌, inl, inr, ℕ, zero, suc, ◌+◌, ◌<◌, ◌≤◌, Bool, true, false, List, [], ◌∷◌, ◌++◌, length, set, Option, Some, None, refl, sym, ap, subst, ◌∙◌, arith}
use Rattle.std.specs.Prelude.{◌≢◌, ◌⊎◌, ⊤}
use Rattle.std.specs.List.{AllZip, slice_get}
use Rattle.std.specs.Option.{MatchOption}
use Rattle.med_base.specs.declared.member.MemberState.TheVariants as state
use Rattle.med_base.specs.declared.outside.source.Source.{Ghosts as Source}
use Rattle.med_prelude.specs.Texts.{Bytes}
use Rattle.tuple_core.specs.Values.{RowValues}
use Rattle.csv_wrap.specs.Pulls.{AnswersOnePull}
use Rattle.csv_wrap.specs.Wrapped.{SameSource}
use Rattle.csv_wrap.specs.declared.wrapper.Pulled.{Pulled}
use Rattle.csv_wrap.specs.declared.wrapper.Pulled.TheVariants as pulled
use Rattle.collect_core.specs.Members.{Member}
use Rattle.collect_core.specs.Reading.{Reader}
use Rattle.collect_core.specs.Selecting.{Select}
use Rattle.collect_core.specs.Steps.{Accepts, AcceptsHeld, Pulls as PullsReader, ReadsHeld, ReadsOn, StepsMember, state_after}
use Rattle.collect_core.specs.declared.reader.Collected.{Collected}
use Rattle.collect_core.specs.declared.reader.Collected.TheVariants as collected
use Rattle.collect_core.proofs.Pulling.{same_source}
use Rattle.step_core.specs.Parts.{BecomesAt}
use Rattle.step_core.specs.Passes.{Becomes, GoesOrIsOver, HoldsNone, MemberAccepts, MemberGoesOn, ReaderAccepts, ReaderGoesOn, ReaderHoldsNone}

-- ---- an element of a list

pub becomes_at : {X : Type 0} (R : X → X → Type 0) (n : ℕ) (xs : List X) (x y : X) → slice_get xs n ≡ Some x → R x y → BecomesAt R n xs (set xs n y)
becomes_at R n [] x y e r = cc
becomes_at R zero (z ∷ xs) x y e r = let same : x ≡ z = cc in (subst (λ a. R a y) same r, refl)
becomes_at R (suc n) (z ∷ xs) x y e r = (refl, becomes_at R n xs x y e r)

pub becomes_same : {X : Type 0} (R : X → X → Type 0) → ((x : X) → R x x) → (n : ℕ) (xs : List X) → n < length xs → BecomesAt R n xs xs
becomes_same R same n [] inside = absurd (Prim.omega (arith, inside))
becomes_same R same zero (x ∷ xs) inside = (same x, refl)
becomes_same R same (suc n) (x ∷ xs) inside = (refl, becomes_same R same n xs (Prim.omega (arith, inside)))

pub becomes_then : {X : Type 0} (R Q T : X → X → Type 0) → ((x y z : X) → R x y → Q y z → T x z) → (n : ℕ) (xs ys zs : List X) → BecomesAt R n xs ys → BecomesAt Q n ys zs → BecomesAt T n xs zs
becomes_then R Q T both n [] ys zs h k = absurd h
becomes_then R Q T both n (x ∷ xs) [] zs h k = absurd h
becomes_then R Q T both n (x ∷ xs) (y ∷ ys) [] h k = absurd k
becomes_then R Q T both zero (x ∷ xs) (y ∷ ys) (z ∷ zs) h k = (both x y z h.0 k.0, k.1 ∙ h.1)
becomes_then R Q T both (suc n) (x ∷ xs) (y ∷ ys) (z ∷ zs) h k = (k.0 ∙ h.0, becomes_then R Q T both n xs ys zs h.1 k.1)

pub becomes_weaker : {X : Type 0} (R Q : X → X → Type 0) → ((x y : X) → R x y → Q x y) → (n : ℕ) (xs ys : List X) → BecomesAt R n xs ys → BecomesAt Q n xs ys
becomes_weaker R Q so n [] ys h = absurd h
becomes_weaker R Q so n (x ∷ xs) [] h = absurd h
becomes_weaker R Q so zero (x ∷ xs) (y ∷ ys) h = (so x y h.0, h.1)
becomes_weaker R Q so (suc n) (x ∷ xs) (y ∷ ys) h = (h.0, becomes_weaker R Q so n xs ys h.1)

pub becomes_length : {X : Type 0} (R : X → X → Type 0) (n : ℕ) (xs ys : List X) → BecomesAt R n xs ys → length ys ≡ length xs
becomes_length R n [] ys h = absurd h
becomes_length R n (x ∷ xs) [] h = absurd h
becomes_length R zero (x ∷ xs) (y ∷ ys) h = ap (λ l. suc (length l)) h.1
becomes_length R (suc n) (x ∷ xs) (y ∷ ys) h = ap suc (becomes_length R n xs ys h.1)

-- this became of the first elements; the others are the same
abbrev pub FirstsBecome : {X : Type 0} → (X → X → Type 0) → ℕ → List X → List X → Type 0
FirstsBecome R zero xs ys = ys ≡ xs
FirstsBecome R (suc n) [] [] = ⊤
FirstsBecome R (suc n) [] (y ∷ ys) = ⊥
FirstsBecome R (suc n) (x ∷ xs) [] = ⊥
FirstsBecome R (suc n) (x ∷ xs) (y ∷ ys) = R x y × FirstsBecome R n xs ys

pub firsts_weaker : {X : Type 0} (R Q : X → X → Type 0) → ((x y : X) → R x y → Q x y) → (n : ℕ) (xs ys : List X) → FirstsBecome R n xs ys → FirstsBecome Q n xs ys
firsts_weaker R Q so zero xs ys h = h
firsts_weaker R Q so (suc n) [] [] h = tt
firsts_weaker R Q so (suc n) [] (y ∷ ys) h = absurd h
firsts_weaker R Q so (suc n) (x ∷ xs) [] h = absurd h
firsts_weaker R Q so (suc n) (x ∷ xs) (y ∷ ys) h = (so x y h.0, firsts_weaker R Q so n xs ys h.1)

pub firsts_more : {X : Type 0} (R : X → X → Type 0) (n : ℕ) (xs ys zs : List X) → FirstsBecome R n xs ys → BecomesAt R n ys zs → FirstsBecome R (suc n) xs zs
firsts_more R zero xs ys zs h k = begin xs zs (subst (λ l. BecomesAt R zero l zs) h k)
  where
    begin : (old new : List _) → BecomesAt R zero old new → FirstsBecome R 1 old new
    begin [] new k = absurd k
    begin (a ∷ old) [] k = absurd k
    begin (a ∷ old) (b ∷ new) k = k
firsts_more R (suc n) [] [] zs h k = absurd k
firsts_more R (suc n) [] (y ∷ ys) zs h k = absurd h
firsts_more R (suc n) (x ∷ xs) [] zs h k = absurd h
firsts_more R (suc n) (x ∷ xs) (y ∷ ys) [] h k = absurd k
firsts_more R (suc n) (x ∷ xs) (y ∷ ys) (z ∷ zs) h k = (subst (λ a. R x a) (sym k.0) h.0, firsts_more R n xs ys zs h.1 k.1)

all_same : {X : Type 0} (R : X → X → Type 0) → ((x : X) → R x x) → (xs : List X) → AllZip R xs xs
all_same R same [] = tt
all_same R same (x ∷ xs) = (same x, all_same R same xs)

pub firsts_all : {X : Type 0} (R : X → X → Type 0) → ((x : X) → R x x) → (n : ℕ) (xs ys : List X) → FirstsBecome R n xs ys → AllZip R xs ys
firsts_all R same zero xs ys h = subst (λ l. AllZip R xs l) (sym h) (all_same R same xs)
firsts_all R same (suc n) [] [] h = tt
firsts_all R same (suc n) [] (y ∷ ys) h = absurd h
firsts_all R same (suc n) (x ∷ xs) [] h = absurd h
firsts_all R same (suc n) (x ∷ xs) (y ∷ ys) h = (h.0, firsts_all R same n xs ys h.1)

pub firsts_every : {X : Type 0} (R : X → X → Type 0) (n : ℕ) (xs ys : List X) → length xs ≤ n → FirstsBecome R n xs ys → AllZip R xs ys
firsts_every R zero [] ys all h = subst (λ l. AllZip R [] l) (sym h) tt
firsts_every R zero (x ∷ xs) ys all h = absurd (Prim.omega (arith, all))
firsts_every R (suc n) [] [] all h = tt
firsts_every R (suc n) [] (y ∷ ys) all h = absurd h
firsts_every R (suc n) (x ∷ xs) [] all h = absurd h
firsts_every R (suc n) (x ∷ xs) (y ∷ ys) all h = (h.0, firsts_every R n xs ys (Prim.omega (arith, all)) h.1)

pub all_both : {X : Type 0} (R : X → X → Type 0) (ls ms ns os : List X) → AllZip R ls ms → AllZip R ns os → AllZip R (ls ++ ns) (ms ++ os)
all_both R [] [] ns os h k = k
all_both R [] (y ∷ ms) ns os h k = absurd h
all_both R (x ∷ ls) [] ns os h k = absurd h
all_both R (x ∷ ls) (y ∷ ms) ns os h k = (h.0, all_both R ls ms ns os h.1 k)

-- ---- a source

at_most : (n m : ℕ) → m ≡ n → n ≤ m
at_most n m e = Prim.omega (arith, e)

one_more : (n m : ℕ) → m ≡ n + 1 → n ≤ m
one_more n m e = Prim.omega (arith, e)

pulled_once : {S M : Type 0} (source : Source S M) (old new : Reader S) (answer : Pulled) → PullsReader source old new answer
    → (new.wrapper.source ≡ old.wrapper.source) ⊎ ((answer : Pulled) × AnswersOnePull source old.wrapper.source new.wrapper.source answer)
pulled_once {S} {M} source old new answer p = go p.before.ahead.framed.ended p.before.kept refl refl
  where
    go : (ended : Bool) (kept : Bytes) → p.before.ahead.framed.ended ≡ ended → p.before.kept ≡ kept
        → (new.wrapper.source ≡ old.wrapper.source) ⊎ ((answer : Pulled) × AnswersOnePull source old.wrapper.source new.wrapper.source answer)
    go true kept e k = inl (p.no_pull (inr (inl e)) ∙ p.source_is)
    go false (byte ∷ bytes) e k = inl (p.no_pull (inr (inr (subst (λ l. 0 < length l) (sym k) (Prim.omega arith)))) ∙ p.source_is)
    go false [] e k = inr (answer, subst (λ s. AnswersOnePull source s new.wrapper.source answer) p.source_is (p.one_pull (p.holds.1, e, k)))

after_pull : (answer : Pulled) → GoesOrIsOver (state_after answer)
after_pull pulled.Moved = tt
after_pull pulled.NotYet = tt
after_pull pulled.Ended = tt
after_pull (pulled.Failed why) = tt
after_pull pulled.NoMemory = tt

reader_goes : {S M : Type 0} (source : Source S M) (select : Select) (old new : Reader S) (result : Collected) → SameSource source old.wrapper.source new.wrapper.source → ReadsOn source select old new result → ReaderGoesOn source old new
reader_goes {S} {M} source select old new result same reads = go result reads
  where
    accepts : (row : RowValues) → Accepts source old new row → ReaderGoesOn source old new
    accepts row a = record { same = same; once = inl a.source_is; grew = one_more old.accepted new.accepted a.counted; active = λ was. subst GoesOrIsOver (sym (a.state_is ∙ was)) tt; over = λ idle. absurd (idle a.was) }

    pulls : (answer : Pulled) → PullsReader source old new answer → ReaderGoesOn source old new
    pulls answer p = record { same = same; once = pulled_once source old new answer p; grew = at_most old.accepted new.accepted p.nothing.counted; active = λ was. subst GoesOrIsOver (sym p.state_is) (after_pull answer); over = λ idle. absurd (idle p.was) }

    go : (r : Collected) → ReadsOn source select old new r → ReaderGoesOn source old new
    go (collected.Row row) (values, a, is) = accepts values a
    go collected.Moved (inl (values, a, is)) = accepts values a
    go collected.Moved (inr (inl (why, a))) =
        record { same = same; once = inl a.source_is; grew = at_most old.accepted new.accepted a.nothing.counted; active = λ was. subst GoesOrIsOver (sym a.state_is) tt; over = λ idle. absurd (idle a.was) }
    go collected.Moved (inr (inr (answer, p, moved))) = pulls answer p
    go collected.Still (inl (idle, is)) =
        record { same = same; once = inl (ap (λ r. r.wrapper.source) is); grew = at_most old.accepted new.accepted (ap (λ r. r.accepted) is); active = λ was. absurd (idle was); over = λ n. is }
    go collected.Still (inr p) = pulls pulled.NotYet p
    go collected.NoMemory (was, s) =
        record { same = same; once = once s.one_pull; grew = at_most old.accepted new.accepted s.nothing.counted; active = λ active. subst GoesOrIsOver (sym (s.state_is ∙ active)) tt; over = λ idle. absurd (idle was) }
      where
        once : (new.wrapper.source ≡ old.wrapper.source) ⊎ AnswersOnePull source old.wrapper.source new.wrapper.source pulled.NoMemory
            → (new.wrapper.source ≡ old.wrapper.source) ⊎ ((answer : Pulled) × AnswersOnePull source old.wrapper.source new.wrapper.source answer)
        once (inl e) = inl e
        once (inr a) = inr (pulled.NoMemory, a)

reader_accepts : {S M : Type 0} (source : Source S M) (select : Select) (old new : Reader S) (result : Collected) → new.wrapper.source ≡ old.wrapper.source → ReadsHeld source select old new result → ReaderAccepts old new
reader_accepts {S} {M} source select old new result same reads = go result reads
  where
    accepts : (row : RowValues) → Accepts source old new row → ReaderAccepts old new
    accepts row a = record { source_is = same; grew = one_more old.accepted new.accepted a.counted; state_is = inl a.state_is; over = λ idle. absurd (idle a.was) }

    go : (r : Collected) → ReadsHeld source select old new r → ReaderAccepts old new
    go (collected.Row row) (values, a, is) = accepts values a
    go collected.Moved (inl (values, a, is)) = accepts values a
    go collected.Moved (inr (why, a)) = record { source_is = same; grew = at_most old.accepted new.accepted a.nothing.counted; state_is = inr a.state_is; over = λ idle. absurd (idle a.was) }
    go collected.Still (inl (idle, is)) = record { source_is = same; grew = at_most old.accepted new.accepted (ap (λ r. r.accepted) is); state_is = inl (ap (λ r. r.state) is); over = λ n. is }
    go collected.Still (inr f) = record { source_is = same; grew = at_most old.accepted new.accepted f.nothing.counted; state_is = inl f.state_is; over = λ idle. absurd (idle f.was) }
    go collected.NoMemory (was, s) = record { source_is = same; grew = at_most old.accepted new.accepted s.nothing.counted; state_is = inl s.state_is; over = λ idle. absurd (idle was) }

-- ---- a member

pub member_goes : {S M : Type 0} (source : Source S M) (select : Select) (m n : Member S) (result : Collected) → StepsMember source select m n result → MemberGoesOn source m n
member_goes {S} {M} source select m n result h = go m.reader h
  where
    go : (o : Option (Reader S)) → MatchOption o ((result ≡ collected.Still) × (n ≡ m)) (λ r. (q : Reader S) × (n ≡ record m { reader = Some q }) × SameSource source r.wrapper.source q.wrapper.source × ReadsOn source select r q result)
        → MatchOption o (n ≡ m) (λ r. (q : Reader S) × ((n ≡ record m { reader = Some q }) × ReaderGoesOn source r q))
    go None (still, same) = same
    go (Some r) (q, is, same, reads) = (q, (is, reader_goes source select r q result same reads))

pub member_accepts : {S M : Type 0} (source : Source S M) (select : Select) (m n : Member S) (result : Collected) → AcceptsHeld source select m n result → MemberAccepts m n
member_accepts {S} {M} source select m n result h = go m.reader h
  where
    go : (o : Option (Reader S)) → MatchOption o ((result ≡ collected.Still) × (n ≡ m)) (λ r. (q : Reader S) × (n ≡ record m { reader = Some q }) × (q.wrapper.source ≡ r.wrapper.source) × ReadsHeld source select r q result)
        → MatchOption o (n ≡ m) (λ r. (q : Reader S) × ((n ≡ record m { reader = Some q }) × ReaderAccepts r q))
    go None (still, same) = same
    go (Some r) (q, is, same, reads) = (q, (is, reader_accepts source select r q result same reads))

with_reader : {S : Type 0} (m : Member S) (r : Reader S) → m.reader ≡ Some r → m ≡ record m { reader = Some r }
with_reader m r e = ap (λ o. record m { reader = o }) e

-- a member as it is
pub goes_nowhere : {S M : Type 0} (source : Source S M) (m : Member S) → MemberGoesOn source m m
goes_nowhere {S} {M} source m = go m.reader refl
  where
    go : (o : Option (Reader S)) → m.reader ≡ o → MatchOption o (m ≡ m) (λ r. (q : Reader S) × ((m ≡ record m { reader = Some q }) × ReaderGoesOn source r q))
    go None e = refl
    go (Some r) e = (r, (with_reader m r e, record { same = same_source source r.wrapper.source r.wrapper.source refl; once = inl refl; grew = Prim.omega arith; active = λ was. subst GoesOrIsOver (sym was) tt; over = λ idle. refl }))

pub accepts_none : {S : Type 0} (m : Member S) → MemberAccepts m m
accepts_none {S} m = go m.reader refl
  where
    go : (o : Option (Reader S)) → m.reader ≡ o → MatchOption o (m ≡ m) (λ r. (q : Reader S) × ((m ≡ record m { reader = Some q }) × ReaderAccepts r q))
    go None e = refl
    go (Some r) e = (r, (with_reader m r e, record { source_is = refl; grew = Prim.omega arith; state_is = inl refl; over = λ idle. refl }))

-- and then rows were accepted
over_then : {S : Type 0} (r q p : Reader S) → (r.state ≢ state.Active → q ≡ r) → (q.state ≢ state.Active → p ≡ q) → r.state ≢ state.Active → p ≡ r
over_then r q p first next idle = next (λ active. idle (sym (ap (λ x. x.state) (first idle)) ∙ active)) ∙ first idle

up_to : (a b c : ℕ) → a ≤ b → b ≤ c → a ≤ c
up_to a b c h k = Prim.omega (arith, h, k)

accepts_more : {S : Type 0} (r q p : Reader S) → ReaderAccepts r q → ReaderAccepts q p → ReaderAccepts r p
accepts_more r q p a b = record { source_is = b.source_is ∙ a.source_is; grew = up_to r.accepted q.accepted p.accepted a.grew b.grew; state_is = states a.state_is b.state_is; over = over_then r q p a.over b.over }
  where
    states : (q.state ≡ r.state) ⊎ (q.state ≡ state.Failed) → (p.state ≡ q.state) ⊎ (p.state ≡ state.Failed) → (p.state ≡ r.state) ⊎ (p.state ≡ state.Failed)
    states (inl e) (inl f) = inl (f ∙ e)
    states (inr e) (inl f) = inr (f ∙ e)
    states h (inr f) = inr f

members_then : {S : Type 0} (R Q T : Reader S → Reader S → Type 0) → ((r q p : Reader S) → R r q → Q q p → T r p) → (m n o : Member S) → Becomes R m n → Becomes Q n o → Becomes T m o
members_then {S} R Q T both m n o h k = go m.reader refl h
  where
    go : (x : Option (Reader S)) → m.reader ≡ x → MatchOption x (n ≡ m) (λ r. (q : Reader S) × ((n ≡ record m { reader = Some q }) × R r q)) → MatchOption x (o ≡ m) (λ r. (q : Reader S) × ((o ≡ record m { reader = Some q }) × T r q))
    go None e same = subst (λ x. MatchOption x (o ≡ m) (λ r. (q : Reader S) × ((o ≡ record m { reader = Some q }) × Q r q))) e (subst (λ y. Becomes Q y o) same k)
    go (Some r) e (q, (is, a)) = some (subst (λ y. Becomes Q y o) is k)
      where
        some : Becomes Q (record m { reader = Some q }) o → (p : Reader S) × ((o ≡ record m { reader = Some p }) × T r p)
        some (p, (o_is, b)) = (p, (o_is, both r q p a b))

pub accepts_then : {S : Type 0} (m n o : Member S) → MemberAccepts m n → MemberAccepts n o → MemberAccepts m o
accepts_then m n o h k = members_then ReaderAccepts ReaderAccepts ReaderAccepts accepts_more m n o h k

goes_more : {S M : Type 0} (source : Source S M) (r q p : Reader S) → ReaderGoesOn source r q → ReaderAccepts q p → ReaderGoesOn source r p
goes_more {S} {M} source r q p a b = record {
  same = subst (λ s. SameSource source r.wrapper.source s) (sym b.source_is) a.same;
  once = subst (λ s. (s ≡ r.wrapper.source) ⊎ ((answer : Pulled) × AnswersOnePull source r.wrapper.source s answer)) (sym b.source_is) a.once;
  grew = up_to r.accepted q.accepted p.accepted a.grew b.grew;
  active = λ was. states (a.active was) b.state_is;
  over = over_then r q p a.over b.over;
}
  where
    states : GoesOrIsOver q.state → (p.state ≡ q.state) ⊎ (p.state ≡ state.Failed) → GoesOrIsOver p.state
    states goes (inl e) = subst GoesOrIsOver (sym e) goes
    states goes (inr e) = subst GoesOrIsOver (sym e) tt

pub goes_then_accepts : {S M : Type 0} (source : Source S M) (m n o : Member S) → MemberGoesOn source m n → MemberAccepts n o → MemberGoesOn source m o
goes_then_accepts source m n o h k = members_then (ReaderGoesOn source) ReaderAccepts (ReaderGoesOn source) (goes_more source) m n o h k

-- ---- where nothing is held

pub holds_none : {S M : Type 0} (source : Source S M) (select : Select) (m n : Member S) → AcceptsHeld source select m n collected.Still → HoldsNone n
holds_none {S} {M} source select m n h = go m.reader refl h
  where
    none : (o : Option (Reader S)) → o ≡ None → MatchOption o ⊤ ReaderHoldsNone
    none o e = subst (λ x. MatchOption x ⊤ ReaderHoldsNone) (sym e) tt

    held : (r q : Reader S) → ReadsHeld source select r q collected.Still → ReaderHoldsNone q
    held r q (inl (idle, is)) = inl (λ active. idle (sym (ap (λ x. x.state) is) ∙ active))
    held r q (inr f) = inr (f.waits, f.holds)

    go : (o : Option (Reader S)) → m.reader ≡ o → MatchOption o ((collected.Still ≡ collected.Still) × (n ≡ m)) (λ r. (q : Reader S) × (n ≡ record m { reader = Some q }) × (q.wrapper.source ≡ r.wrapper.source) × ReadsHeld source select r q collected.Still) → HoldsNone n
    go None e (still, same) = subst HoldsNone (sym same) (none m.reader e)
    go (Some r) e (q, is, same, reads) = subst HoldsNone (sym is) (held r q reads)
