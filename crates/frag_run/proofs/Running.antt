-- Passes, one after another.
use Rattle.std.proofs.Common.{◌≡◌, inl, inr, ℕ, ◌+◌, ◌-◌, ◌*◌, ◌^◌, ◌<◌, ◌≤◌, false, List, [], ◌∷◌, Option, Some, None, refl, sym, ap, subst, ◌∙◌, arith}
use Rattle.std.specs.Prelude.{◌≢◌, ◌⊎◌, IfSome}
use Rattle.std.specs.List.{AllZip}
use Rattle.std.specs.Option.{MatchOption}
use Rattle.std.proofs.lemmas.Bool.{false≢true}
use Rattle.std.proofs.Math.Nat.{mul-le-mul_right, suc-mul}
use Rattle.med_base.specs.Outside.{StaysTold}
use Rattle.med_base.specs.declared.member.MemberState.{MemberState}
use Rattle.med_base.specs.declared.member.MemberState.TheVariants as state
use Rattle.med_base.specs.declared.outside.source.Source.{Ghosts as Source}
use Rattle.med_prelude.specs.Texts.{ToldBytes}
use Rattle.csv_wrap.specs.Wrapped.{SameSource}
use Rattle.collect_core.specs.Members.{Member, is_ended, is_failed}
use Rattle.collect_core.specs.Reading.{Reader}
use Rattle.med_prelude.specs.Counts.{greatest_count}
use Rattle.step_core.specs.Members.{members_of, starved_in}
use Rattle.step_core.specs.Nets.{NetState}
use Rattle.step_core.specs.Passes.{Becomes, GoesOrIsOver, MemberGoesOn, NetIsQuiet, ReaderGoesOn, TreeIdles}
use Rattle.step_core.specs.Same.{SameOperators}
use Rattle.step_core.specs.Standing.{NetStands}
use Rattle.step_core.specs.Work.{net_left}
use Rattle.step_core.proofs.Resting.{quiet_finished}
use Rattle.step_core.proofs.Same.{operators_then}
use Rattle.frag_run.specs.Ends.{AreDry, IsStalled, MemberRan, ReaderRan}
use Rattle.frag_run.specs.Rounds.{IsIdle, MovesOn, Passes}
use Rattle.frag_run.proofs.Drying.{dry_none, net_dry}

-- ---- a source

told_then : (a b c : ToldBytes) → StaysTold a b → StaysTold b c → StaysTold a c
told_then None b c h k = tt
told_then (Some text) b c h k = subst (λ x. IfSome x (λ t. c ≡ Some t)) h k

source_then : {S M : Type 0} (source : Source S M) (a b c : S) → SameSource source a b → SameSource source b c → SameSource source a c
source_then source a b c h k = record {
  location = k.location ∙ h.location;
  mark = k.mark ∙ h.mark;
  whole = told_then (source.whole a) (source.whole b) (source.whole c) h.whole k.whole;
  faults = Prim.omega (arith, h.faults, k.faults);
  left = Prim.omega (arith, h.left, k.left);
}

source_same : {S M : Type 0} (source : Source S M) (a : S) → SameSource source a a
source_same source a = record { location = refl; mark = refl; whole = told (source.whole a); faults = Prim.omega arith; left = Prim.omega arith }
  where
    told : (t : ToldBytes) → StaysTold t t
    told None = tt
    told (Some text) = refl

-- ---- a reader

ended_active : state.Ended ≢ state.Active
ended_active e = false≢true (sym (ap is_ended e))

failed_active : state.Failed ≢ state.Active
failed_active e = false≢true (sym (ap is_failed e))

up_to : (a b c : ℕ) → a ≤ b → b ≤ c → a ≤ c
up_to a b c h k = Prim.omega (arith, h, k)

reader_then : {S M : Type 0} (source : Source S M) (r q p : Reader S) → ReaderRan source r q → ReaderRan source q p → ReaderRan source r p
reader_then {S} {M} source r q p a b = record {
  same = source_then source r.wrapper.source q.wrapper.source p.wrapper.source a.same b.same;
  grew = up_to r.accepted q.accepted p.accepted a.grew b.grew;
  active = λ was. states q.state refl (a.active was);
  over = λ idle. b.over (λ active. idle (sym (ap (λ x. x.state) (a.over idle)) ∙ active)) ∙ a.over idle;
}
  where
    stays : q.state ≢ state.Active → GoesOrIsOver q.state → GoesOrIsOver p.state
    stays idle goes = subst (λ x. GoesOrIsOver x.state) (sym (b.over idle)) goes

    states : (s : MemberState) → q.state ≡ s → GoesOrIsOver s → GoesOrIsOver p.state
    states state.Idle e goes = absurd goes
    states state.Active e goes = b.active e
    states state.Paused e goes = absurd goes
    states state.Ended e goes = stays (λ active. ended_active (sym e ∙ active)) (subst GoesOrIsOver (sym e) goes)
    states state.Failed e goes = stays (λ active. failed_active (sym e ∙ active)) (subst GoesOrIsOver (sym e) goes)

reader_same : {S M : Type 0} (source : Source S M) (r : Reader S) → ReaderRan source r r
reader_same source r = record { same = source_same source r.wrapper.source; grew = Prim.omega arith; active = λ was. subst GoesOrIsOver (sym was) tt; over = λ idle. refl }

reader_goes : {S M : Type 0} (source : Source S M) (r q : Reader S) → ReaderGoesOn source r q → ReaderRan source r q
reader_goes source r q h = record { same = h.same; grew = h.grew; active = h.active; over = h.over }

-- ---- a member

member_then : {S M : Type 0} (source : Source S M) (m n o : Member S) → MemberRan source m n → MemberRan source n o → MemberRan source m o
member_then {S} {M} source m n o h k = go m.reader refl h
  where
    go : (x : Option (Reader S)) → m.reader ≡ x → MatchOption x (n ≡ m) (λ r. (q : Reader S) × ((n ≡ record m { reader = Some q }) × ReaderRan source r q)) → MatchOption x (o ≡ m) (λ r. (q : Reader S) × ((o ≡ record m { reader = Some q }) × ReaderRan source r q))
    go None e same = subst (λ x. MatchOption x (o ≡ m) (λ r. (q : Reader S) × ((o ≡ record m { reader = Some q }) × ReaderRan source r q))) e (subst (λ y. Becomes (ReaderRan source) y o) same k)
    go (Some r) e (q, (is, a)) = some (subst (λ y. Becomes (ReaderRan source) y o) is k)
      where
        some : Becomes (ReaderRan source) (record m { reader = Some q }) o → (p : Reader S) × ((o ≡ record m { reader = Some p }) × ReaderRan source r p)
        some (p, (o_is, b)) = (p, (o_is, reader_then source r q p a b))

member_goes : {S M : Type 0} (source : Source S M) (m n : Member S) → MemberGoesOn source m n → MemberRan source m n
member_goes {S} {M} source m n h = go m.reader h
  where
    go : (x : Option (Reader S)) → MatchOption x (n ≡ m) (λ r. (q : Reader S) × ((n ≡ record m { reader = Some q }) × ReaderGoesOn source r q)) → MatchOption x (n ≡ m) (λ r. (q : Reader S) × ((n ≡ record m { reader = Some q }) × ReaderRan source r q))
    go None same = same
    go (Some r) (q, (is, a)) = (q, (is, reader_goes source r q a))

member_same : {S M : Type 0} (source : Source S M) (m : Member S) → MemberRan source m m
member_same {S} {M} source m = go m.reader refl
  where
    go : (x : Option (Reader S)) → m.reader ≡ x → MatchOption x (m ≡ m) (λ r. (q : Reader S) × ((m ≡ record m { reader = Some q }) × ReaderRan source r q))
    go None e = refl
    go (Some r) e = (r, (ap (λ o. record m { reader = o }) e, reader_same source r))

-- ---- all members

pub all_then : {S M : Type 0} (source : Source S M) (ms ns os : List (Member S)) → AllZip (MemberRan source) ms ns → AllZip (MemberRan source) ns os → AllZip (MemberRan source) ms os
all_then source [] [] os h k = k
all_then source [] (n ∷ ns) os h k = absurd h
all_then source (m ∷ ms) [] os h k = absurd h
all_then source (m ∷ ms) (n ∷ ns) [] h k = absurd k
all_then source (m ∷ ms) (n ∷ ns) (o ∷ os) h k = (member_then source m n o h.0 k.0, all_then source ms ns os h.1 k.1)

pub all_go : {S M : Type 0} (source : Source S M) (ms ns : List (Member S)) → AllZip (MemberGoesOn source) ms ns → AllZip (MemberRan source) ms ns
all_go source [] [] h = tt
all_go source [] (n ∷ ns) h = absurd h
all_go source (m ∷ ms) [] h = absurd h
all_go source (m ∷ ms) (n ∷ ns) h = (member_goes source m n h.0, all_go source ms ns h.1)

pub all_same : {S M : Type 0} (source : Source S M) (ms ns : List (Member S)) → ns ≡ ms → AllZip (MemberRan source) ms ns
all_same source ms ns e = subst (AllZip (MemberRan source) ms) (sym e) (every ms)
  where
    every : (os : List (Member _)) → AllZip (MemberRan source) os os
    every [] = tt
    every (o ∷ os) = (member_same source o, every os)

-- ---- the passes

-- so many passes in a row moved nothing
pub record HasRun {S M : Type 0} (source : Source S M) (s t : NetState S) (idle limit : ℕ) : Type 0 where
  pub stands : NetStands source t
  pub operators : SameOperators s.tree t.tree
  pub members : AllZip (MemberRan source) (members_of s.tree) (members_of t.tree)
  pub quiet : NetIsQuiet t
  pub dry : AreDry idle t.tree t.edge
  pub few : idle < limit

-- what is left to do, and how many more passes may move nothing
abbrev pub passes_left : {S M : Type 0} → Source S M → NetState S → ℕ → ℕ → ℕ
passes_left source n idle limit = net_left source n * (limit + 1) + (limit - idle)

pub run_on : {S M : Type 0} (source : Source S M) (s t u : NetState S) (idle now limit : ℕ) → HasRun source s t idle limit → NetStands source u → SameOperators t.tree u.tree → AllZip (MemberRan source) (members_of t.tree) (members_of u.tree) → Passes source t u idle now
    → (now ≡ limit → ⊥) → HasRun source s u now limit
run_on {S} {M} source s t u idle now limit h stands operators members p other = record {
  stands = stands;
  operators = operators_then s.tree t.tree u.tree h.operators operators;
  members = all_then source (members_of s.tree) (members_of t.tree) (members_of u.tree) h.members members;
  quiet = p.quiet;
  dry = p.dry h.dry;
  few = fewer p.counted;
}
  where
    below : (n m k : ℕ) → n < k → m ≡ n + 1 → (m ≡ k → ⊥) → m < k
    below n m k few is other = Prim.omega (arith, few, is, other)

    zero_below : (n m k : ℕ) → n < k → m ≡ 0 → m < k
    zero_below n m k few is = Prim.omega (arith, few, is)

    fewer : MovesOn source t u now ⊎ IsIdle source t u idle now → now < limit
    fewer (inl m) = zero_below idle now limit h.few m.none
    fewer (inr i) = below idle now limit h.few i.more other

pub less_left : {S M : Type 0} (source : Source S M) (t u : NetState S) (idle now limit : ℕ) → idle < limit → Passes source t u idle now → (now ≡ limit → ⊥) → passes_left source u now limit < passes_left source t idle limit
less_left {S} {M} source t u idle now limit few p other = go p.counted
  where
    -- (b + 1) * (l + 1) ≤ a * (l + 1)
    step : (a b l : ℕ) → b < a → b * (l + 1) + (l + 1) ≤ a * (l + 1)
    step a b l h = subst (λ n. n ≤ a * (l + 1)) (suc-mul b (l + 1)) (mul-le-mul_right (l + 1) h)

    moved : (x y l i m : ℕ) → y + (l + 1) ≤ x → m ≡ 0 → y + (l - m) < x + (l - i)
    moved x y l i m h none = Prim.omega (arith, h, none)

    stood : (x y l i m : ℕ) → y ≤ x → m ≡ i + 1 → i < l → y + (l - m) < x + (l - i)
    stood x y l i m h more few = Prim.omega (arith, h, more, few)

    go : MovesOn source t u now ⊎ IsIdle source t u idle now → passes_left source u now limit < passes_left source t idle limit
    go (inl m) = moved (net_left source t * (limit + 1)) (net_left source u * (limit + 1)) limit idle now (step (net_left source t) (net_left source u) limit m.falls) m.none
    go (inr i) = stood (net_left source t * (limit + 1)) (net_left source u * (limit + 1)) limit idle now (mul-le-mul_right (limit + 1) i.stays) i.more few

-- the net has come to a rest that lasted
pub stalled : {S M : Type 0} (source : Source S M) (s t u : NetState S) (idle now limit : ℕ) → HasRun source s t idle limit → NetStands source u → Passes source t u idle now → now ≡ limit → u.edge.taken ≡ false → starved_in u.tree ≡ None → (now ≡ limit) × IsStalled limit u
stalled source s t u idle now limit h stands p is goes_on fed = (
  is,
  record {
    dry = subst (λ n. AreDry n u.tree u.edge) is (p.dry h.dry);
    quiet = p.quiet;
    unsettled = λ settled. false≢true (sym goes_on ∙ quiet_finished source u stands p.quiet settled);
    goes_on = goes_on;
    fed = fed;
  },
)

pub run_none : {S M : Type 0} (source : Source S M) (s t : NetState S) (limit : ℕ) → 0 < limit → NetStands source t → SameOperators s.tree t.tree → members_of t.tree ≡ members_of s.tree → NetIsQuiet t → HasRun source s t 0 limit
run_none source s t limit few stands operators members quiet =
    record { stands = stands; operators = operators; members = all_same source (members_of s.tree) (members_of t.tree) members; quiet = quiet; dry = dry_none t.tree t.edge; few = few }

pub counts : (n limit : ℕ) → n < limit → limit < 2 ^ 64 → n < greatest_count
counts n limit few fits = Prim.omega (arith, few, fits)

-- ---- one pass

-- it moved nothing
pub idles : {S M : Type 0} (source : Source S M) (s t : NetState S) (idle : ℕ) → idle < greatest_count → NetIsQuiet s → TreeIdles source s.tree t.tree s.edge t.edge → NetIsQuiet t → net_left source t ≤ net_left source s → Passes source s t idle (idle + 1)
idles source s t idle few quiet h rests stays = record { quiet = rests; counted = inr (record { more = refl; stays = stays }); dry = net_dry source idle s t few h quiet }

-- it moved, and what waited went on
pub moves : {S M : Type 0} (source : Source S M) (s t u : NetState S) (idle : ℕ) → net_left source t < net_left source s → net_left source u ≤ net_left source t → NetIsQuiet u → Passes source s u idle 0
moves source s t u idle less stays quiet = record { quiet = quiet; counted = inl (record { none = refl; falls = Prim.omega (arith, less, stays) }); dry = λ dry. dry_none u.tree u.edge }
