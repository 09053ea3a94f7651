-- How the rows of a source were taken.
use Rattle.std.specs.Prelude.{◌≡◌, ℕ, ◌≤◌, Bool, true, false, List, ◌++◌, Option, Some, None}
use Rattle.med_base.specs.declared.member.MemberFault.{MemberFault}
use Rattle.med_base.specs.declared.member.MemberState.TheVariants as state
use Rattle.med_base.specs.declared.outside.source.Source.{Ghosts as Source}
use Rattle.tuple_core.specs.declared.value.Value.{Value}
use Rattle.csv_wrap.specs.Ahead.{HoldsNothing}
use Rattle.csv_wrap.specs.Wrapped.{AcceptedAs, HasGiven, SoundAs, Wrapped, fault_of}
use Rattle.tuple_core.specs.Values.{RowList}
use Rattle.med_top.specs.Limits.{idle_limit}
use Rattle.med_top.specs.declared.taking.SourceEnd.{SourceEnd}
use Rattle.med_top.specs.declared.taking.SourceEnd.TheVariants as source_end

-- the rows that the wrapper gave stand behind these, and no others do
pub record HasTaken {S M : Type 0} (source : Source S M) (w : Wrapped S) (before rows : RowList) : Type 0 where
  pub given : RowList
  pub has : HasGiven source w given
  pub behind : rows ≡ before ++ given

-- all that was held is taken, up to a fault
abbrev pub IsTakenUp : {S M : Type 0} → Source S M → Wrapped S → Option MemberFault → Type 0
IsTakenUp source w None = HoldsNothing w.ahead × (fault_of w ≡ None)
IsTakenUp source w (Some why) = SoundAs source w state.Failed (Some why)

-- how a source stands where its rows end
abbrev pub EndsTaking : {S M : Type 0} → Source S M → Wrapped S → SourceEnd → Type 0
EndsTaking source w source_end.Ended = SoundAs source w state.Ended None × AcceptedAs source w
EndsTaking source w (source_end.Failed why) = SoundAs source w state.Failed (Some why)
EndsTaking source w source_end.Stalled = SoundAs source w state.Active None × (idle_limit ≤ source.dry w.source)

-- 1 until a source's end is told
abbrev pub ends_to_come : Bool → ℕ
ends_to_come true = 0
ends_to_come false = 1
