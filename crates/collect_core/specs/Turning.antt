-- The parts of a step, for the reader's own use.
use Rattle.std.specs.Prelude.{◌≡◌, ⊤, ◌+◌, ◌≤◌, true, List, [], ◌++◌, length, Some, None}
use Rattle.med_base.specs.declared.member.MemberState.TheVariants as state
use Rattle.med_base.specs.declared.outside.source.Source.{Ghosts as Source}
use Rattle.tuple_core.specs.declared.columns.Column.{Column}
use Rattle.tuple_core.specs.Values.{RowList}
use Rattle.csv_wrap.specs.Ahead.{HoldsNothing}
use Rattle.csv_wrap.specs.Pulls.{AnswersOnePull, AsksSource, CountsWaits, LeavesSource, MovesBy}
use Rattle.csv_wrap.specs.Wrapped.{AcceptedAs, HasGiven, IsLast, IsPulled, SameSource, SoundAs, fault_of, row_of}
use Rattle.csv_wrap.specs.declared.wrapper.NextRow.{NextRow}
use Rattle.csv_wrap.specs.declared.wrapper.NextRow.TheVariants as next
use Rattle.csv_wrap.specs.declared.wrapper.Pulled.{Pulled}
use Rattle.csv_wrap.specs.declared.wrapper.Pulled.TheVariants as pulled
use Rattle.collect_core.specs.Reading.{IsReader, Reader, ReaderAccepted, most_rows}
use Rattle.collect_core.specs.Steps.{fault_after, state_after, waited_after}
use Rattle.collect_core.specs.declared.reader.Collected.{Collected}
use Rattle.collect_core.specs.declared.reader.Collected.TheVariants as collected

-- a reader of the source, of which nothing was read
pub record IsFresh {S M : Type 0} (source : Source S M) (columns : List Column) (s : S) (r : Reader S) : Type 0 where
  pub reader : IsReader source r
  pub accepted : ReaderAccepted source r []
  pub counted : r.accepted ≡ 0
  pub source_is : r.wrapper.source ≡ s
  pub columns_is : r.wrapper.ahead.columns ≡ columns
  pub state_is : r.state ≡ state.Active
  pub fault_is : r.fault ≡ None
  pub waited_is : r.waited ≡ 0

abbrev pub TakesAs : {S M : Type 0} → Source S M → Reader S → Reader S → NextRow → Type 0
TakesAs source old new (next.Row row) =
    (new.wrapper.accepted ≤ most_rows) × (old.waiting ≡ None → HoldsNothing old.wrapper.ahead → ⊥) × (length row ≡ length old.wrapper.ahead.columns)
TakesAs source old new next.Nothing = (old.waiting ≡ None) × HoldsNothing new.wrapper.ahead × (fault_of new.wrapper ≡ None)
TakesAs source old new (next.Failed why) = (fault_of new.wrapper ≡ Some why) × SoundAs source new.wrapper state.Failed (Some why)
TakesAs source old new next.NoMemory = ⊤

-- the row that waits, or the next one that is held, was taken
pub record TakesNext {S M : Type 0} (source : Source S M) (old new : Reader S) (answer : NextRow) : Type 0 where
  pub waits : new.waiting ≡ None
  pub accepted_is : new.accepted ≡ old.accepted
  pub state_is : new.state ≡ old.state
  pub fault_is : new.fault ≡ old.fault
  pub waited_is : new.waited ≡ old.waited
  pub source_is : new.wrapper.source ≡ old.wrapper.source
  pub columns_is : new.wrapper.ahead.columns ≡ old.wrapper.ahead.columns
  pub kept_is : new.wrapper.kept ≡ old.wrapper.kept
  pub ended_is : new.wrapper.ahead.framed.ended ≡ old.wrapper.ahead.framed.ended
  pub given : (rows : RowList) → ReaderAccepted source old rows → HasGiven source new.wrapper (rows ++ row_of answer)
  pub counted : new.wrapper.accepted ≡ old.accepted + length (row_of answer)
  pub so_far : SoundAs source new.wrapper state.Active None
  pub told : AcceptedAs source new.wrapper
  pub answers : TakesAs source old new answer

-- the wrapper, which held nothing, was pulled
pub record PulledBy {S M : Type 0} (source : Source S M) (old new : Reader S) (answer : Pulled) : Type 0 where
  pub waits : new.waiting ≡ None
  pub accepted_is : new.accepted ≡ old.accepted
  pub state_is : new.state ≡ state_after answer
  pub fault_is : new.fault ≡ fault_after answer
  pub waited_is : new.waited ≡ waited_after answer old.waited
  pub source_is : SameSource source old.wrapper.source new.wrapper.source
  pub columns_is : new.wrapper.ahead.columns ≡ old.wrapper.ahead.columns
  pub given : (rows : RowList) → HasGiven source old.wrapper rows → HasGiven source new.wrapper rows
  pub counted : new.wrapper.accepted ≡ old.wrapper.accepted
  pub so_far : SoundAs source new.wrapper state.Active None
  pub told : AcceptedAs source new.wrapper
  pub last : old.wrapper.ahead.framed.ended ≡ true → IsLast answer
  pub one_pull : AsksSource old.wrapper → AnswersOnePull source old.wrapper.source new.wrapper.source answer
  pub no_pull : LeavesSource old.wrapper → new.wrapper.source ≡ old.wrapper.source
  pub waits_counted : CountsWaits source old.wrapper.source new.wrapper.source answer
  pub answers : IsPulled source old.wrapper new.wrapper answer
  pub moved : MovesBy source old.wrapper new.wrapper answer

-- what a step is by what its pull answers
abbrev pub collected_by : Pulled → Collected
collected_by pulled.Moved = collected.Moved
collected_by pulled.NotYet = collected.Still
collected_by pulled.Ended = collected.Moved
collected_by (pulled.Failed why) = collected.Moved
collected_by pulled.NoMemory = collected.NoMemory

abbrev pub PullsAs : {S M : Type 0} → Source S M → Reader S → Reader S → Collected → Type 0
PullsAs source old new result = (answer : Pulled) × PulledBy source old new answer × (result ≡ collected_by answer)
