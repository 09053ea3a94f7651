-- Rows that were read ahead of those that were given.
use Rattle.std.specs.Prelude.{◌≡◌, ℕ, ◌+◌, ◌<◌, ◌≤◌, Bool, true, List, [], ◌∷◌, ◌++◌, length, take, drop, Option, Some, None}
use Rattle.std.specs.List.{AllByRecursion}
use Rattle.med_base.specs.declared.member.MemberFault.{MemberFault}
use Rattle.med_prelude.specs.Texts.{Bytes}
use Rattle.tuple_core.specs.declared.columns.Column.{Column}
use Rattle.tuple_core.specs.Values.{RowList}
use Rattle.csv_frame.specs.Frames.{GoesOn, frames}
use Rattle.csv_frame.specs.Holding.{Held, HoldsNone}
use Rattle.csv_runs.specs.Runs.{is_run}
use Rattle.csv_wrap.specs.declared.ahead.AtEnd.{AtEnd}
use Rattle.csv_wrap.specs.declared.ahead.AtEnd.TheVariants as end
use Rattle.csv_wrap.specs.Readings.{Reading, rows_then, failed_reading, read_frames}

pub record Ahead : Type 0 where
  pub columns : List Column
  -- the rows that were read and not given
  pub rows : RowList
  -- the fault of the frame after them, where it was reached; no frame counts after it
  pub bad : Option MemberFault
  -- the number of the next frame
  pub number : ℕ
  pub framed : Held

-- the rows have as many values as there are columns
abbrev pub FillColumns : List Column → RowList → Type 0
FillColumns columns rows = AllByRecursion (λ row. length row ≡ length columns) rows

-- what comes next, unless a fault does
abbrev pub unless_bad : Option MemberFault → Reading → Reading
unless_bad None more = more
unless_bad (Some why) more = failed_reading why

-- what is still to be given where these bytes follow
abbrev pub future : Ahead → Bytes → Bool → Reading
future ahead more ended =
    rows_then ahead.rows (unless_bad ahead.bad (read_frames ahead.number ahead.columns (frames (ahead.framed.rest ++ more) ended) ended))

-- the fault, once no row is left before it
abbrev pub fault_behind : RowList → Option MemberFault → Option MemberFault
fault_behind [] bad = bad
fault_behind (row ∷ rows) bad = None

-- nothing was given or lost: however the text goes on, the same is still to be given
pub record KeepsFuture (old new : Ahead) : Type 0 where
  pub columns : new.columns ≡ old.columns
  pub ended : new.framed.ended ≡ old.framed.ended
  pub bytes : new.framed.at + length new.framed.rest ≡ old.framed.at + length old.framed.rest
  pub counted : length new.rows + old.number ≤ length old.rows + new.number
  pub wide : FillColumns old.columns old.rows → FillColumns new.columns new.rows
  pub same : (more : Bytes) (ended : Bool) → GoesOn old.framed.ended more ended → future old more ended ≡ future new more ended

-- a row or a fault was read ahead, or no whole frame is held
abbrev pub IsReadAhead : Ahead → Type 0
IsReadAhead ahead = ahead.rows ≡ [] → ahead.bad ≡ None → HoldsNone ahead.framed

-- no row, no fault and no whole frame is held
pub record HoldsNothing (ahead : Ahead) : Type 0 where
  pub rows : ahead.rows ≡ []
  pub bad : ahead.bad ≡ None
  pub frames : HoldsNone ahead.framed

-- so many bytes from the next frame on are a run of frames
pub record IsRunAhead (held : Held) (count : ℕ) : Type 0 where
  pub some : 0 < count
  pub inside : count ≤ length held.rest
  pub run : is_run (take count held.rest) ≡ true
  pub splits : (more : Bytes) (ended : Bool) → frames (held.rest ++ more) ended ≡ frames (take count held.rest) true ++ frames (drop count held.rest ++ more) ended

-- what is left where the source's end was told
abbrev pub EndsAt : Ahead → AtEnd → Type 0
EndsAt ahead end.Held = (ahead.rows ≡ []) × (ahead.bad ≡ None) × (HoldsNothing ahead → ⊥) × (HoldsNone ahead.framed → ⊥)
EndsAt ahead end.Clean = HoldsNothing ahead × (0 < ahead.number)
EndsAt ahead (end.Bad why) = (ahead.rows ≡ []) × (ahead.bad ≡ Some why)

-- these rows, the fault that may stop them and the number of the next frame are what so many frames, and rows before them, gave
abbrev pub ReadsFrames : List Column → List (Option Bytes) → RowList → ℕ → RowList → Option MemberFault → ℕ → Type 0
ReadsFrames columns read old number rows bad next =
    (later : List (Option Bytes)) (ended : Bool)
    → rows_then old (read_frames number columns (read ++ later) ended) ≡ rows_then rows (unless_bad bad (read_frames next columns later ended))
