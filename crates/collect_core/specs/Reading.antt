-- How far the reading of a source has come.
use Rattle.std.specs.Prelude.{◌≡◌, ◌≢◌, ⊤, ℕ, ◌+◌, ◌-◌, ◌≤◌, ◌^◌, Bool, true, false, [], ◌∷◌, ◌++◌, length, Option, None, IfSome, option_to_list}
use Rattle.med_base.specs.declared.member.MemberFault.{MemberFault}
use Rattle.med_base.specs.declared.member.MemberState.{MemberState}
use Rattle.med_base.specs.declared.member.MemberState.TheVariants as state
use Rattle.med_base.specs.declared.outside.source.Source.{Ghosts as Source}
use Rattle.med_prelude.specs.Texts.{Bytes}
use Rattle.tuple_core.specs.Values.{RowList, RowValues}
use Rattle.csv_wrap.specs.Ahead.{FillColumns}
use Rattle.csv_wrap.specs.Sound.{IsSoundState}
use Rattle.csv_wrap.specs.Wrapped.{AcceptedAs, HasGiven, SoundAs, Wrapped}

-- A source that is read. The row that waits was given by the wrapper and isn't accepted yet.
pub record Reader (S : Type 0) : Type 0 where
  pub wrapper : Wrapped S
  pub waiting : Option RowValues
  -- how many rows were accepted
  pub accepted : ℕ
  pub state : MemberState
  pub fault : Option MemberFault
  -- how many pulls answered that nothing is there yet
  pub waited : ℕ

-- no source gives more rows
abbrev pub most_rows : ℕ
most_rows = 2 ^ 62

-- These rows were accepted: each has a value for each column, and the wrapper gave them, and behind them the one that waits.
abbrev pub ReaderAccepted : {S M : Type 0} → Source S M → Reader S → RowList → Type 0
ReaderAccepted source r rows = FillColumns r.wrapper.ahead.columns rows × HasGiven source r.wrapper (rows ++ option_to_list r.waiting)

-- what the reader's state says of its source is so
abbrev pub IsSoundReader : {S M : Type 0} → Source S M → Reader S → Type 0
IsSoundReader source r = IsSoundState r.wrapper.ahead.columns (source.taken r.wrapper.source) (source.whole r.wrapper.source) (source.faults r.wrapper.source) r.accepted r.state r.fault

-- a member that has a source isn't idle
abbrev pub HasBegun : MemberState → Type 0
HasBegun state.Idle = ⊥
HasBegun state.Active = ⊤
HasBegun state.Paused = ⊤
HasBegun state.Ended = ⊤
HasBegun state.Failed = ⊤

-- what holds of each reader
pub record IsReader {S M : Type 0} (source : Source S M) (r : Reader S) : Type 0 where
  pub rows : RowList
  pub given : ReaderAccepted source r rows
  pub counted : r.wrapper.accepted ≡ r.accepted + length (option_to_list r.waiting)
  pub so_far : SoundAs source r.wrapper state.Active None
  pub told : AcceptedAs source r.wrapper
  pub sound : IsSoundReader source r
  pub begun : HasBegun r.state
  pub active : r.state ≢ state.Active → r.waiting ≡ None
  pub wide : IfSome r.waiting (λ row. length row ≡ length r.wrapper.ahead.columns)
  pub few : r.wrapper.accepted ≤ most_rows
  pub waited : r.waited ≤ source.waits r.wrapper.source

-- 1 while bytes are kept, and 1 until the end is told
abbrev pub some_kept : Bytes → ℕ
some_kept [] = 0
some_kept (byte ∷ bytes) = 1

abbrev pub end_to_come : Bool → ℕ
end_to_come true = 0
end_to_come false = 1

-- nothing is left for one that has ended or failed
abbrev pub unless_over : MemberState → ℕ → ℕ
unless_over state.Idle n = n
unless_over state.Active n = n
unless_over state.Paused n = n
unless_over state.Ended n = 0
unless_over state.Failed n = 0

-- How much is left to do: rows to accept, bytes to pull and to feed, the end to be told, and the end of the reading.
abbrev pub reader_left : {S M : Type 0} → Source S M → Reader S → ℕ
reader_left source r =
    unless_over r.state ((most_rows - r.accepted) + source.left r.wrapper.source + some_kept r.wrapper.kept + end_to_come r.wrapper.ahead.framed.ended + 1)
