-- What a call that pulls does to its source.
use Rattle.std.specs.Prelude.{◌≡◌, ⊤, ℕ, ◌+◌, ◌<◌, ◌≤◌, ◌⊎◌, true, false, [], ◌++◌, length, take, None, IsSome}
use Rattle.med_base.specs.declared.member.MemberFault.TheVariants as fault
use Rattle.med_base.specs.declared.outside.source.Source.{Ghosts as Source}
use Rattle.med_base.specs.declared.outside.source.Pull.{Pull}
use Rattle.med_base.specs.declared.outside.source.Pull.TheVariants as pull
use Rattle.med_base.specs.Outside.{CountsWait, EndsOnlyWhole, FitsRoom, IfPullFailed, StaysTold, bytes_count, bytes_given, dry_after}
use Rattle.med_prelude.specs.Counts.{Rose}
use Rattle.med_prelude.specs.Texts.{Bytes, IfBothTold, IsPrefix, told_with}
use Rattle.csv_frame.specs.Holding.{HoldsNone}
use Rattle.csv_wrap.specs.Wrapped.{Wrapped, fault_of}
use Rattle.csv_wrap.specs.declared.wrapper.Came.{Came}
use Rattle.csv_wrap.specs.declared.wrapper.Came.TheVariants as came
use Rattle.csv_wrap.specs.declared.wrapper.Pulled.{Pulled}
use Rattle.csv_wrap.specs.declared.wrapper.Pulled.TheVariants as pulled

-- the new source is what one pull makes of the old, where it gives this answer and leaves the room so
pub record IsOnePull {S M : Type 0} (source : Source S M) (old new : S) (answer : Pull) (room : Bytes) : Type 0 where
  pub fits : FitsRoom answer room
  pub taken : source.taken new ≡ told_with (source.taken old) (bytes_given answer room)
  pub prefix : IfBothTold (source.taken old) (source.whole old) IsPrefix → IfBothTold (source.taken new) (source.whole new) IsPrefix
  pub end : EndsOnlyWhole answer (length room) (source.taken new) (source.whole new)
  pub whole : StaysTold (source.whole old) (source.whole new)
  pub location : source.location new ≡ source.location old
  pub mark : source.mark new ≡ source.mark old
  pub faults : source.faults old ≤ source.faults new
  pub failed : IfPullFailed answer (Rose (source.faults old) (source.faults new))
  pub waits : CountsWait answer (source.waits old) (source.waits new)
  pub dry : source.dry new ≡ dry_after answer (source.dry old)
  pub left : source.left new + bytes_count answer ≤ source.left old

-- the answer gave bytes, or told the end; no bytes tell it too
abbrev pub GivesSome : Pull → Type 0
GivesSome (pull.Bytes count) = 0 < count
GivesSome pull.NotYet = ⊥
GivesSome pull.End = ⊥
GivesSome pull.Failed = ⊥

abbrev pub TellsEnd : Pull → Type 0
TellsEnd (pull.Bytes count) = count ≡ 0
TellsEnd pull.NotYet = ⊥
TellsEnd pull.End = ⊤
TellsEnd pull.Failed = ⊥

-- what a pull of rows answers to the one pull that it made: no failure and no end is passed over
abbrev pub AnswersPull : Pull → Pulled → Type 0
AnswersPull answer pulled.Moved = GivesSome answer ⊎ TellsEnd answer
AnswersPull answer pulled.NotYet = answer ≡ pull.NotYet
AnswersPull answer pulled.Ended = TellsEnd answer
AnswersPull answer (pulled.Failed why) = TellsEnd answer ⊎ ((answer ≡ pull.Failed) × (why ≡ fault.Read))
AnswersPull answer pulled.NoMemory = GivesSome answer

abbrev pub AnswersOnePull : {S M : Type 0} → Source S M → S → S → Pulled → Type 0
AnswersOnePull source old new result = (answer : Pull) × (room : Bytes) × IsOnePull source old new answer room × AnswersPull answer result

-- one pull gave these bytes, and there are some
abbrev pub PullGives : {S M : Type 0} → Source S M → S → S → Bytes → Type 0
PullGives source old new bytes = (count : ℕ) × (room : Bytes) × (0 < count) × (bytes ≡ take count room) × IsOnePull source old new (pull.Bytes count) room

-- what one pull of bytes did, and the bytes that are kept of it
abbrev pub ComesOfOnePull : {S M : Type 0} → Source S M → S → S → Bytes → Came → Type 0
ComesOfOnePull source old new kept came.Bytes = PullGives source old new kept
ComesOfOnePull source old new kept came.NotYet = (room : Bytes) × IsOnePull source old new pull.NotYet room
ComesOfOnePull source old new kept came.End = (answer : Pull) × (room : Bytes) × IsOnePull source old new answer room × TellsEnd answer × (source.waits new ≡ source.waits old)
ComesOfOnePull source old new kept came.Failed = (room : Bytes) × IsOnePull source old new pull.Failed room

-- The source is pulled once where no fault was reached, no end told and no bytes are kept, and else not at all.
abbrev pub AsksSource : {S : Type 0} → Wrapped S → Type 0
AsksSource w = (fault_of w ≡ None) × (w.ahead.framed.ended ≡ false) × (w.kept ≡ [])

abbrev pub LeavesSource : {S : Type 0} → Wrapped S → Type 0
LeavesSource w = IsSome (fault_of w) ⊎ (w.ahead.framed.ended ≡ true) ⊎ (0 < length w.kept)

-- the count of waits rises where nothing is there yet, and stands at every other answer
abbrev pub CountsWaits : {S M : Type 0} → Source S M → S → S → Pulled → Type 0
CountsWaits source old new pulled.NotYet = Rose (source.waits old) (source.waits new)
CountsWaits source old new pulled.Moved = source.waits new ≡ source.waits old
CountsWaits source old new pulled.Ended = source.waits new ≡ source.waits old
CountsWaits source old new (pulled.Failed why) = source.waits new ≡ source.waits old
CountsWaits source old new pulled.NoMemory = source.waits new ≡ source.waits old

-- bytes were fed: those that the source gave, or those that were kept
abbrev pub TakesBytes : {S M : Type 0} → Source S M → Wrapped S → Wrapped S → Type 0
TakesBytes source old new = (bytes : Bytes) × PullGives source old.source new.source bytes × (new.ahead.framed.rest ≡ old.ahead.framed.rest ++ bytes)

abbrev pub FeedsKept : {S : Type 0} → Wrapped S → Wrapped S → Type 0
FeedsKept old new = (0 < length old.kept) × (new.source ≡ old.source) × (new.ahead.framed.rest ≡ old.ahead.framed.rest ++ old.kept)

-- a whole frame is held at the end that was told
abbrev pub HoldsFrameAtEnd : {S : Type 0} → Wrapped S → Type 0
HoldsFrameAtEnd w = (w.ahead.framed.ended ≡ true) × (HoldsNone w.ahead.framed → ⊥)

-- what a pull that moved did
abbrev pub MovesBy : {S M : Type 0} → Source S M → Wrapped S → Wrapped S → Pulled → Type 0
MovesBy source old new pulled.Moved = TakesBytes source old new ⊎ FeedsKept old new ⊎ HoldsFrameAtEnd new
MovesBy source old new pulled.NotYet = ⊤
MovesBy source old new pulled.Ended = ⊤
MovesBy source old new (pulled.Failed why) = ⊤
MovesBy source old new pulled.NoMemory = ⊤
