-- What a framer holds of a text to which more may come.
use Rattle.std.specs.Prelude.{◌≡◌, ⊤, ℕ, ◌+◌, ◌<◌, ◌≤◌, Bool, List, [], ◌∷◌, ◌++◌, length, drop, slice_range, Option, Some, None}
use Rattle.med_prelude.specs.Texts.{Bytes}
use Rattle.csv_frame.specs.Frames.{GoesOn, frames, long_from, long_offset, longest_frame, pieces}
use Rattle.csv_frame.specs.Scanning.{IsScanned}
use Rattle.csv_frame.specs.declared.find.Span.{Span}
use Rattle.csv_frame.specs.declared.find.Cursor.{Cursor}
use Rattle.csv_frame.specs.declared.find.FrameStep.{FrameStep}
use Rattle.csv_frame.specs.declared.find.FrameStep.TheVariants as step
use Rattle.csv_frame.specs.declared.find.Peek.{Peek}
use Rattle.csv_frame.specs.declared.find.Peek.TheVariants as peek

pub record Held : Type 0 where
  -- all bytes that are still there, those that were passed too
  pub bytes : Bytes
  -- those from the next frame's start on
  pub rest : Bytes
  -- the offset of the rest in the text
  pub at : ℕ
  -- whether the text's end was told
  pub ended : Bool

-- what is held where the next frame begins at `start` among the bytes, whose offset in the text is `before`
abbrev pub held_of : Bytes → ℕ → ℕ → Bool → Held
held_of bytes start before ended = record {
  bytes = bytes;
  rest = drop start bytes;
  at = before + start;
  ended = ended;
}

-- the cursor of a scan stands within the bytes
pub record IsCursor (bytes : Bytes) (cursor : Cursor) : Type 0 where
  pub within : cursor.start ≤ length bytes
  pub scanned : IsScanned (drop cursor.start bytes) cursor.scan

-- However the text goes on, the frames from the old rest on are these, and then those from the new one on.
abbrev pub GivesFrames : Held → List (Option Bytes) → Held → Type 0
GivesFrames old given new = (more : Bytes) (ended : Bool) → GoesOn old.ended more ended → frames (old.rest ++ more) ended ≡ given ++ frames (new.rest ++ more) ended

-- However the text goes on, a frame that is too long begins at the same offset of the text.
abbrev pub KeepsLong : Held → Held → Type 0
KeepsLong old new = (more : Bytes) (ended : Bool) → GoesOn old.ended more ended → long_from old.at (pieces (old.rest ++ more) ended) ≡ long_from new.at (pieces (new.rest ++ more) ended)

abbrev pub span_bytes : Held → Span → Bytes
span_bytes held span = slice_range held.bytes span.from span.end

abbrev pub IsGood : Held → Span → Type 0
IsGood held span = (span.from ≤ span.end) × (span.end ≤ length held.bytes)

pub record IsFrame (old new : Held) (span : Span) : Type 0 where
  pub good : IsGood new span
  pub forward : length new.rest < length old.rest
  pub gives : GivesFrames old (Some (span_bytes new span) ∷ []) new

-- the first frame is at hand, and the others come after so many bytes
pub record IsAtHand (held : Held) (span : Span) (count : ℕ) : Type 0 where
  pub good : IsGood held span
  pub some : 0 < count
  pub inside : count ≤ length held.rest
  pub first : (more : Bytes) (ended : Bool) → GoesOn held.ended more ended → frames (held.rest ++ more) ended ≡ Some (span_bytes held span) ∷ frames (drop count held.rest ++ more) ended
  pub offset : (more : Bytes) (ended : Bool) → GoesOn held.ended more ended → long_from held.at (pieces (held.rest ++ more) ended) ≡ long_from (held.at + count) (pieces (drop count held.rest ++ more) ended)

-- no whole frame is held
abbrev pub HoldsNone : Held → Type 0
HoldsNone held = frames held.rest held.ended ≡ []

-- the first piece of the bytes has too many of them, and nothing comes after it
abbrev pub IsTooLong : Bytes → Type 0
IsTooLong bytes = (longest_frame < length bytes) × ((more : Bytes) (ended : Bool) → pieces (bytes ++ more) ended ≡ None ∷ [])

-- the frame that begins at this offset of the text, which is the rest's, has too many bytes
pub record IsLong (held : Held) (at : ℕ) : Type 0 where
  pub offset : at ≡ held.at
  pub long : IsTooLong held.rest

abbrev pub PeeksFrame : Held → Held → Peek → Type 0
PeeksFrame old new (peek.Frame span count) = GivesFrames old [] new × IsAtHand new span count
PeeksFrame old new peek.NotWhole = GivesFrames old [] new × HoldsNone new
PeeksFrame old new (peek.TooLong at) = GivesFrames old [] new × IsLong new at

abbrev pub StepsFrame : Held → Held → FrameStep → Type 0
StepsFrame old new (step.Frame span) = IsFrame old new span
StepsFrame old new step.NotWhole = GivesFrames old [] new × HoldsNone new
StepsFrame old new (step.TooLong at) = GivesFrames old [] new × IsLong new at

-- the frame that a step gives
abbrev pub frame_of : Held → FrameStep → List (Option Bytes)
frame_of held (step.Frame span) = Some (span_bytes held span) ∷ []
frame_of held step.NotWhole = []
frame_of held (step.TooLong at) = []

-- Of all bytes that were fed these frames were given, and those of the rest come next, however the text goes on.
pub record HasGivenFrames (fed : Bytes) (given : List (Option Bytes)) (held : Held) : Type 0 where
  pub gives : (more : Bytes) (ended : Bool) → GoesOn held.ended more ended → frames (fed ++ more) ended ≡ given ++ frames (held.rest ++ more) ended
  pub offset : (more : Bytes) (ended : Bool) → GoesOn held.ended more ended → long_offset (fed ++ more) ended ≡ long_from held.at (pieces (held.rest ++ more) ended)

-- However the text goes on, the frame that is too long begins at the offset that is told.
abbrev pub TellsLong : Bytes → Bool → FrameStep → Type 0
TellsLong fed told (step.Frame span) = ⊤
TellsLong fed told step.NotWhole = ⊤
TellsLong fed told (step.TooLong at) = (more : Bytes) (ended : Bool) → GoesOn told more ended → long_offset (fed ++ more) ended ≡ Some at
