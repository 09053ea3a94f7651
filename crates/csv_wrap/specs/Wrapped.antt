-- What a wrapper holds of a source, and what its answers say.
use Rattle.std.specs.Prelude.{◌≡◌, ⊤, ℕ, ◌+◌, ◌<◌, ◌≤◌, ◌^◌, ◌⊎◌, Bool, true, false, List, [], ◌∷◌, ◌++◌, length, Option, Some, None, IfSome, if◌then◌else◌}
use Rattle.med_base.specs.declared.member.MemberFault.{MemberFault}
use Rattle.med_base.specs.declared.member.MemberFault.TheVariants as fault
use Rattle.med_base.specs.declared.member.MemberState.{MemberState}
use Rattle.med_base.specs.declared.member.MemberState.TheVariants as state
use Rattle.med_base.specs.declared.outside.source.Source.{Ghosts as Source}
use Rattle.med_base.specs.declared.outside.source.Pull.TheVariants as pull
use Rattle.med_base.specs.Outside.{StaysTold, dry_after}
use Rattle.med_prelude.specs.Counts.{Rose}
use Rattle.med_prelude.specs.Texts.{Bytes, IsWhole}
use Rattle.tuple_core.specs.declared.columns.Column.{Column}
use Rattle.tuple_core.specs.Values.{RowList}
use Rattle.csv_frame.specs.Frames.{GoesOn}
use Rattle.csv_frame.specs.Holding.{HoldsNone}
use Rattle.csv_wrap.specs.Ahead.{Ahead, HoldsNothing, fault_behind, future}
use Rattle.csv_wrap.specs.Readings.{rows_then, source_reading}
use Rattle.csv_wrap.specs.Sound.{IsOfBytes, IsSoundState, accepted_with}
use Rattle.csv_wrap.specs.declared.wrapper.Came.{Came}
use Rattle.csv_wrap.specs.declared.wrapper.Came.TheVariants as came
use Rattle.csv_wrap.specs.declared.wrapper.Pulled.{Pulled}
use Rattle.csv_wrap.specs.declared.wrapper.Pulled.TheVariants as pulled
use Rattle.csv_wrap.specs.declared.wrapper.NextRow.{NextRow}
use Rattle.csv_wrap.specs.declared.wrapper.NextRow.TheVariants as next

pub record Wrapped (S : Type 0) : Type 0 where
  pub source : S
  -- what was fed, and read ahead
  pub ahead : Ahead
  -- bytes that were pulled and not yet fed
  pub kept : Bytes
  -- whether a pull failed
  pub failed : Bool
  -- how many rows were given
  pub accepted : ℕ

-- However the text goes on, its rows are those that were given and then those that are still to be given.
abbrev pub Continues : {S : Type 0} → Wrapped S → Bytes → RowList → Type 0
Continues w taken given = (more : Bytes) (ended : Bool) → GoesOn w.ahead.framed.ended more ended
    → source_reading w.ahead.columns (taken ++ more) ended ≡ rows_then given (future w.ahead (w.kept ++ more) ended)

-- Of the bytes that were taken, where they are told, these rows were given.
abbrev pub HasGiven : {S M : Type 0} → Source S M → Wrapped S → RowList → Type 0
HasGiven source w given = (w.accepted ≡ length given) × IfSome (source.taken w.source) (λ taken. Continues w taken given)

-- the fault that is answered: that of a pull that failed, or that of a bad frame before which no row is left
abbrev pub fault_of : {S : Type 0} → Wrapped S → Option MemberFault
fault_of w = if w.failed then Some fault.Read else fault_behind w.ahead.rows w.ahead.bad

-- a member in this state that accepted what was given is sound
abbrev pub SoundAs : {S M : Type 0} → Source S M → Wrapped S → MemberState → Option MemberFault → Type 0
SoundAs source w state why = (given : RowList) → HasGiven source w given
    → IsSoundState w.ahead.columns (source.taken w.source) (source.whole w.source) (source.faults w.source) w.accepted state why

-- the rows of a member that accepted as many as were given are those that were given
abbrev pub AcceptedAs : {S M : Type 0} → Source S M → Wrapped S → Type 0
AcceptedAs source w = (given : RowList) → HasGiven source w given
    → IfSome (accepted_with source w.ahead.columns w.accepted (Some w.source)) (λ rows. rows ≡ given)

-- no call changes these
pub record SameSource {S M : Type 0} (source : Source S M) (old new : S) : Type 0 where
  pub location : source.location new ≡ source.location old
  pub mark : source.mark new ≡ source.mark old
  pub whole : StaysTold (source.whole old) (source.whole new)
  pub faults : source.faults old ≤ source.faults new
  pub left : source.left new ≤ source.left old

-- no whole frame is held, nor a row; a fault that was reached stays
abbrev pub MayPull : {S : Type 0} → Wrapped S → Type 0
MayPull w = (w.ahead.rows ≡ []) × (w.ahead.bad ≡ None → HoldsNothing w.ahead)

-- bytes were taken or kept ones fed, or the end is told and a whole frame is held
abbrev pub HasMoved : {S M : Type 0} → Source S M → Wrapped S → Wrapped S → Type 0
HasMoved source old new =
    ((new.ahead.framed.ended ≡ false) × ((source.left new.source + 1 ≤ source.left old.source) ⊎ ((0 < length old.kept) × (new.kept ≡ []))))
    ⊎ ((new.ahead.framed.ended ≡ true) × (HoldsNothing new.ahead → ⊥))

-- the fault is the one that was reached, and a pull that failed was counted
pub record IsFault {S M : Type 0} (source : Source S M) (old new : Wrapped S) (why : MemberFault) : Type 0 where
  pub reached : fault_of new ≡ Some why
  pub counted : why ≡ fault.Read → fault_of old ≡ None → Rose (source.faults old.source) (source.faults new.source)
  pub sound : SoundAs source new state.Failed (Some why)

abbrev pub IsPulled : {S M : Type 0} → Source S M → Wrapped S → Wrapped S → Pulled → Type 0
IsPulled source old new pulled.Moved = HasMoved source old new × (fault_of new ≡ None) × (new.kept ≡ [])
IsPulled source old new pulled.NotYet = Rose (source.waits old.source) (source.waits new.source) × (new.ahead.framed.ended ≡ false) × HoldsNothing new.ahead × (fault_of new ≡ None)
    × (new.kept ≡ []) × (source.dry new.source ≡ dry_after pull.NotYet (source.dry old.source))
IsPulled source old new pulled.Ended = (new.ahead.framed.ended ≡ true) × HoldsNothing new.ahead × (fault_of new ≡ None) × SoundAs source new state.Ended None × AcceptedAs source new
IsPulled source old new (pulled.Failed why) = IsFault source old new why
IsPulled source old new pulled.NoMemory = HoldsNothing new.ahead × (fault_of new ≡ None)

-- nothing more will come
abbrev pub IsLast : Pulled → Type 0
IsLast pulled.Moved = ⊥
IsLast pulled.NotYet = ⊥
IsLast pulled.Ended = ⊤
IsLast (pulled.Failed why) = ⊤
IsLast pulled.NoMemory = ⊤

-- what came at the end that a source told
abbrev pub IsEnd : {S : Type 0} → Wrapped S → Pulled → Type 0
IsEnd w pulled.Moved = (w.ahead.framed.ended ≡ true) × (HoldsNothing w.ahead → ⊥) × (fault_of w ≡ None) × (HoldsNone w.ahead.framed → ⊥)
IsEnd w pulled.Ended = (w.ahead.framed.ended ≡ true) × HoldsNothing w.ahead × (fault_of w ≡ None) × (0 < w.ahead.number)
IsEnd w (pulled.Failed why) = (fault_of w ≡ Some why) × (w.failed ≡ false)
IsEnd w pulled.NotYet = ⊥
IsEnd w pulled.NoMemory = ⊥

-- what a pull of bytes did
abbrev pub CameAs : {S M : Type 0} → Source S M → Wrapped S → Wrapped S → Came → Type 0
CameAs source old new came.Bytes = (source.left new.source + 1 ≤ source.left old.source) × (new ≡ record old { source = new.source; kept = new.kept })
CameAs source old new came.End = new ≡ record old { source = new.source; ahead = record old.ahead { framed = record old.ahead.framed { ended = true } } }
CameAs source old new came.NotYet = Rose (source.waits old.source) (source.waits new.source) × (new ≡ record old { source = new.source })
    × (source.dry new.source ≡ dry_after pull.NotYet (source.dry old.source))
CameAs source old new came.Failed = Rose (source.faults old.source) (source.faults new.source) × (new ≡ record old { source = new.source; failed = true })

-- the row that was given
abbrev pub row_of : NextRow → RowList
row_of (next.Row row) = row ∷ []
row_of next.Nothing = []
row_of (next.Failed why) = []
row_of next.NoMemory = []

abbrev pub IsNext : {S M : Type 0} → Source S M → Wrapped S → Wrapped S → NextRow → Type 0
IsNext source old new (next.Row row) = (new.accepted ≤ 2 ^ 62) × (HoldsNothing old.ahead → ⊥)
IsNext source old new next.Nothing = HoldsNothing new.ahead × (fault_of new ≡ None)
IsNext source old new (next.Failed why) = IsFault source old new why
IsNext source old new next.NoMemory = ⊤

-- a row that is given has as many values as there are columns
abbrev pub FillsColumns : List Column → NextRow → Type 0
FillsColumns columns (next.Row row) = length row ≡ length columns
FillsColumns columns next.Nothing = ⊤
FillsColumns columns (next.Failed why) = ⊤
FillsColumns columns next.NoMemory = ⊤

-- a fault that was answered is answered again, and nothing changes
abbrev pub StaysPulled : {S : Type 0} → Wrapped S → Wrapped S → Pulled → Type 0
StaysPulled old new answer = IfSome (fault_of old) (λ why. (answer ≡ pulled.Failed why) × (new ≡ old))

abbrev pub StaysNext : {S : Type 0} → Wrapped S → Wrapped S → NextRow → Type 0
StaysNext old new answer = IfSome (fault_of old) (λ why. (answer ≡ next.Failed why) × (new ≡ old))

-- the source's bytes were all taken
abbrev pub IsAllTaken : {S M : Type 0} → Source S M → S → Type 0
IsAllTaken source s = IsWhole (source.taken s) (source.whole s)

-- a pull failed while nothing was held
pub record IsFailedPull {S M : Type 0} (source : Source S M) (w : Wrapped S) : Type 0 where
  pub faults : 1 ≤ source.faults w.source
  pub kept : w.kept ≡ []
  pub unended : w.ahead.framed.ended ≡ false
  pub nothing : HoldsNothing w.ahead

-- what holds of each wrapper
pub record IsWrapped {S M : Type 0} (source : Source S M) (w : Wrapped S) : Type 0 where
  pub few : w.ahead.framed.at + length w.ahead.framed.rest + length w.kept + source.left w.source ≤ 2 ^ 62
  pub counted : w.accepted + length w.ahead.rows ≤ w.ahead.number
  pub fed : w.ahead.framed.ended ≡ true → w.kept ≡ []
  pub whole : w.ahead.framed.ended ≡ true → IsAllTaken source w.source
  pub failed : w.failed ≡ true → IsFailedPull source w
  pub of_bytes : IfSome w.ahead.bad IsOfBytes
