-- The steps of a collector.
use Rattle.std.specs.Prelude.{◌≡◌, ◌≢◌, ⊤, ℕ, ◌+◌, ◌<◌, ◌≤◌, ◌⊎◌, min, List, [], ◌∷◌, ◌++◌, length, set, flat_map, slice_get, slice_index_or, Option, Some, None}
use Rattle.std.specs.List.{AllZip}
use Rattle.std.specs.Option.{MatchOption}
use Rattle.answer_theory.specs.Bags.{SameBag}
use Rattle.med_base.specs.declared.member.MemberFault.{MemberFault}
use Rattle.med_base.specs.declared.member.MemberState.{MemberState}
use Rattle.med_base.specs.declared.member.MemberState.TheVariants as state
use Rattle.med_base.specs.declared.outside.source.Source.{Ghosts as Source}
use Rattle.med_prelude.specs.Counts.{greatest_count}
use Rattle.tuple_core.specs.Values.{RowList, RowValues}
use Rattle.csv_wrap.specs.Ahead.{HoldsNothing}
use Rattle.csv_wrap.specs.Pulls.{AnswersOnePull, AsksSource, CountsWaits, LeavesSource, MovesBy}
use Rattle.csv_wrap.specs.Wrapped.{HasGiven, IsPulled, SameSource, Wrapped, fault_of}
use Rattle.csv_wrap.specs.declared.wrapper.Pulled.{Pulled}
use Rattle.csv_wrap.specs.declared.wrapper.Pulled.TheVariants as pulled
use Rattle.collect_core.specs.Collecting.{Collecting}
use Rattle.collect_core.specs.Members.{HasAccepted, Member}
use Rattle.collect_core.specs.Reading.{Reader, ReaderAccepted}
use Rattle.collect_core.specs.Selecting.{Select, selected_row, selected_rows}
use Rattle.collect_core.specs.declared.reader.Collected.{Collected}
use Rattle.collect_core.specs.declared.reader.Collected.TheVariants as collected

-- ---- over the rows that were accepted of each member

-- what an atom gives of the rows that its members accepted
abbrev pub given_rows : Select → List RowList → RowList
given_rows select accepted = flat_map (selected_rows select) accepted

abbrev pub GrewTo : RowList → RowList → Type 0
GrewTo old new = (more : RowList) × (new ≡ old ++ more)

-- A step: rows were accepted behind those of each member, and what the atom gives of them was given, as a bag. Whatever a collector does is such steps, one
-- after another.
pub record CollectorStep (select : Select) (old new : List RowList) (gave : RowList) : Type 0 where
  pub grew : AllZip GrewTo old new
  pub given : SameBag (given_rows select new) (given_rows select old ++ gave)

-- these rows were accepted of one member
abbrev pub with_rows : List RowList → ℕ → RowList → List RowList
with_rows accepted index more = set accepted index (slice_index_or accepted index [] ++ more)

abbrev pub gave : Collected → RowList
gave (collected.Row row) = row ∷ []
gave collected.Moved = []
gave collected.Still = []
gave collected.NoMemory = []

-- At most one row more was accepted, of the member, and what was given is what the atom selects of it.
pub record Gathers {S M : Type 0} (source : Source S M) (s t : Collecting S) (index : ℕ) (result : Collected) (accepted : List RowList) : Type 0 where
  pub more : RowList
  pub few : length more ≤ 1
  pub has : HasAccepted source t.members (with_rows accepted index more)
  pub selected : gave result ≡ selected_rows s.select more
  pub step : CollectorStep s.select accepted (with_rows accepted index more) (gave result)

-- ---- over one source

-- a row that was held was accepted, behind the others; nothing else has changed
pub record Accepts {S M : Type 0} (source : Source S M) (old new : Reader S) (row : RowValues) : Type 0 where
  pub was : old.state ≡ state.Active
  pub held : old.waiting ≡ None → HoldsNothing old.wrapper.ahead → ⊥
  pub accepted : (rows : RowList) → ReaderAccepted source old rows → ReaderAccepted source new (rows ++ row ∷ [])
  pub counted : new.accepted ≡ old.accepted + 1
  pub source_is : new.wrapper.source ≡ old.wrapper.source
  pub state_is : new.state ≡ old.state
  pub fault_is : new.fault ≡ old.fault
  pub waited_is : new.waited ≡ old.waited

-- no row was accepted
pub record AcceptsNothing {S M : Type 0} (source : Source S M) (old new : Reader S) : Type 0 where
  pub accepted : (rows : RowList) → ReaderAccepted source old rows → ReaderAccepted source new rows
  pub counted : new.accepted ≡ old.accepted

-- a bad frame was reached, behind all rows before it
pub record Reaches {S M : Type 0} (source : Source S M) (old new : Reader S) (why : MemberFault) : Type 0 where
  pub was : old.state ≡ state.Active
  pub nothing : AcceptsNothing source old new
  pub source_is : new.wrapper.source ≡ old.wrapper.source
  pub reached : fault_of new.wrapper ≡ Some why
  pub state_is : new.state ≡ state.Failed
  pub fault_is : new.fault ≡ Some why
  pub waited_is : new.waited ≡ old.waited

-- what a pull makes of a reader
abbrev pub state_after : Pulled → MemberState
state_after pulled.Moved = state.Active
state_after pulled.NotYet = state.Active
state_after pulled.Ended = state.Ended
state_after (pulled.Failed why) = state.Failed
state_after pulled.NoMemory = state.Active

abbrev pub fault_after : Pulled → Option MemberFault
fault_after pulled.Moved = None
fault_after pulled.NotYet = None
fault_after pulled.Ended = None
fault_after (pulled.Failed why) = Some why
fault_after pulled.NoMemory = None

abbrev pub waited_after : Pulled → ℕ → ℕ
waited_after pulled.Moved waited = waited
waited_after pulled.NotYet waited = min (waited + 1) greatest_count
waited_after pulled.Ended waited = waited
waited_after (pulled.Failed why) waited = waited
waited_after pulled.NoMemory waited = waited

-- The wrapper was pulled once, where it held no row, no fault and no whole frame any more; and this it answered.
pub record Pulls {S M : Type 0} (source : Source S M) (old new : Reader S) (answer : Pulled) : Type 0 where
  pub was : old.state ≡ state.Active
  pub nothing : AcceptsNothing source old new
  -- the wrapper, once what it held was read, of which there was no row
  pub before : Wrapped S
  pub given : (rows : RowList) → ReaderAccepted source old rows → HasGiven source before rows
  pub source_is : before.source ≡ old.wrapper.source
  pub kept_is : before.kept ≡ old.wrapper.kept
  pub ended_is : before.ahead.framed.ended ≡ old.wrapper.ahead.framed.ended
  pub holds : HoldsNothing before.ahead × (fault_of before ≡ None)
  pub one_pull : AsksSource before → AnswersOnePull source before.source new.wrapper.source answer
  pub no_pull : LeavesSource before → new.wrapper.source ≡ before.source
  pub waits : CountsWaits source before.source new.wrapper.source answer
  pub answers : IsPulled source before new.wrapper answer
  pub moved : MovesBy source before new.wrapper answer
  pub state_is : new.state ≡ state_after answer
  pub fault_is : new.fault ≡ fault_after answer
  pub waited_is : new.waited ≡ waited_after answer old.waited

-- the pull did something
abbrev pub HasMoved : Pulled → Type 0
HasMoved pulled.Moved = ⊤
HasMoved pulled.NotYet = ⊥
HasMoved pulled.Ended = ⊤
HasMoved (pulled.Failed why) = ⊤
HasMoved pulled.NoMemory = ⊥

abbrev pub AcceptsAs : {S M : Type 0} → Source S M → Select → Reader S → Reader S → Option RowValues → Type 0
AcceptsAs source select old new given = (row : RowValues) × Accepts source old new row × (selected_row select row ≡ given)

abbrev pub ReachesSome : {S M : Type 0} → Source S M → Reader S → Reader S → Type 0
ReachesSome source old new = (why : MemberFault) × Reaches source old new why

abbrev pub PullsSome : {S M : Type 0} → Source S M → Reader S → Reader S → Type 0
PullsSome source old new = (answer : Pulled) × Pulls source old new answer × HasMoved answer

-- The source was pulled once at most. A pull for whose bytes there was no memory gave some.
abbrev pub PullsOnceAtMost : {S M : Type 0} → Source S M → S → S → Type 0
PullsOnceAtMost source old new = (new ≡ old) ⊎ AnswersOnePull source old new pulled.NoMemory

-- no row was accepted, and it stands as before
pub record StandsStill {S M : Type 0} (source : Source S M) (old new : Reader S) : Type 0 where
  pub nothing : AcceptsNothing source old new
  pub one_pull : PullsOnceAtMost source old.wrapper.source new.wrapper.source
  pub state_is : new.state ≡ old.state
  pub fault_is : new.fault ≡ old.fault
  pub waited_is : new.waited ≡ old.waited

-- Nothing was held: no row waited, and the wrapper, once what it held was read, of which there was no row, holds no row, no fault and no whole frame. Nothing
-- else has changed.
pub record FindsNothing {S M : Type 0} (source : Source S M) (old new : Reader S) : Type 0 where
  pub was : old.state ≡ state.Active
  pub none : old.waiting ≡ None
  pub nothing : AcceptsNothing source old new
  pub waits : new.waiting ≡ None
  pub holds : HoldsNothing new.wrapper.ahead × (fault_of new.wrapper ≡ None)
  pub source_is : new.wrapper.source ≡ old.wrapper.source
  pub kept_is : new.wrapper.kept ≡ old.wrapper.kept
  pub ended_is : new.wrapper.ahead.framed.ended ≡ old.wrapper.ahead.framed.ended
  pub state_is : new.state ≡ old.state
  pub fault_is : new.fault ≡ old.fault
  pub waited_is : new.waited ≡ old.waited

-- What was accepted of what is held: a row that the atom selects; or it moved by a row that the atom doesn't select, or by a fault that was reached; it stood
-- still where it is over, or where nothing was held.
abbrev pub ReadsHeld : {S M : Type 0} → Source S M → Select → Reader S → Reader S → Collected → Type 0
ReadsHeld source select old new (collected.Row row) = AcceptsAs source select old new (Some row)
ReadsHeld source select old new collected.Moved = AcceptsAs source select old new None ⊎ ReachesSome source old new
ReadsHeld source select old new collected.Still = ((old.state ≢ state.Active) × (new ≡ old)) ⊎ FindsNothing source old new
ReadsHeld source select old new collected.NoMemory = (old.state ≡ state.Active) × StandsStill source old new

-- What a step of the reading was: a row, where one was held that the atom selects; else it moved by a row that the atom doesn't select, by a fault that was
-- reached, or by a pull; it stood still where it is over, or where nothing is there yet.
abbrev pub ReadsOn : {S M : Type 0} → Source S M → Select → Reader S → Reader S → Collected → Type 0
ReadsOn source select old new (collected.Row row) = AcceptsAs source select old new (Some row)
ReadsOn source select old new collected.Moved = AcceptsAs source select old new None ⊎ ReachesSome source old new ⊎ PullsSome source old new
ReadsOn source select old new collected.Still = ((old.state ≢ state.Active) × (new ≡ old)) ⊎ Pulls source old new pulled.NotYet
ReadsOn source select old new collected.NoMemory = (old.state ≡ state.Active) × StandsStill source old new

-- a step that moves lowers what is left, and no step that isn't short of memory raises it
abbrev pub Falls : Collected → ℕ → ℕ → Type 0
Falls (collected.Row row) old new = new < old
Falls collected.Moved old new = new < old
Falls collected.Still old new = new ≤ old
Falls collected.NoMemory old new = ⊤

-- ---- over the members

-- what a step of a member was: one without a source has nothing to do
abbrev pub StepsMember : {S M : Type 0} → Source S M → Select → Member S → Member S → Collected → Type 0
StepsMember {S} source select old new result = MatchOption old.reader ((result ≡ collected.Still) × (new ≡ old))
    (λ r. (q : Reader S) × (new ≡ record old { reader = Some q }) × SameSource source r.wrapper.source q.wrapper.source × ReadsOn source select r q result)

-- what a member accepted of what it holds, without a pull: its source is as it was
abbrev pub AcceptsHeld : {S M : Type 0} → Source S M → Select → Member S → Member S → Collected → Type 0
AcceptsHeld {S} source select old new result = MatchOption old.reader ((result ≡ collected.Still) × (new ≡ old))
    (λ r. (q : Reader S) × (new ≡ record old { reader = Some q }) × (q.wrapper.source ≡ r.wrapper.source) × ReadsHeld source select r q result)

-- one member made a step, and nothing else has changed
pub record Steps {S M : Type 0} (source : Source S M) (s t : Collecting S) (index : ℕ) (result : Collected) : Type 0 where
  pub old : Member S
  pub new : Member S
  pub at : slice_get s.members index ≡ Some old
  pub changed : t ≡ record s { members = set s.members index new }
  pub step : StepsMember source s.select old new result

-- one member accepted what it holds, and nothing else has changed
pub record StepsHeld {S M : Type 0} (source : Source S M) (s t : Collecting S) (index : ℕ) (result : Collected) : Type 0 where
  pub old : Member S
  pub new : Member S
  pub at : slice_get s.members index ≡ Some old
  pub changed : t ≡ record s { members = set s.members index new }
  pub step : AcceptsHeld source s.select old new result
