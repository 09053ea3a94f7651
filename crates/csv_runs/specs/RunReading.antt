-- What one reader of CSV has still to read of a run, and what it reads next.
use Rattle.std.specs.Prelude.{◌≡◌, ◌∷◌, Bool, true, false, List, [], drop, Option, Some, None, MatchOption, if◌then◌else◌}
use Rattle.csv.specs.Machine.{next_record}
use Rattle.csv.specs.Reading.{Ready, default_config, is_flexible, reader_config, reader_state, reader_trim, source_of}
use Rattle.csv.specs.declared.parser.State.{State}
use Rattle.csv.specs.declared.parser.State.TheVariants as state
use Rattle.csv.specs.declared.reader.Reader.{Reader}
use Rattle.csv.specs.declared.reader.Trim.TheVariants as trim
use Rattle.med_prelude.specs.Texts.{Bytes}
use Rattle.csv_frame.specs.Frames.{frames}
use Rattle.csv_runs.specs.Records.{good_record}
use Rattle.csv_runs.specs.Runs.{is_run}
use Rattle.std.proofs.Common.{Bor}

abbrev pub ByteReader : Type 0
ByteReader = Reader (Bor Bytes)

abbrev pub unread_bytes : ByteReader → Option Bytes
unread_bytes reader = source_of (λ bytes. Some bytes.now) reader

abbrev pub is_after_return : State → Bool
is_after_return state.AfterCr = true
is_after_return state.StartRecord = false
is_after_return state.StartField = false
is_after_return state.InField = false
is_after_return state.InQuoted = false
is_after_return state.AfterQuote = false
is_after_return state.InEscape = false
is_after_return state.InComment = false

-- the bytes from the next frame's start on: behind a CR its line feed is still to come
abbrev pub from_frame : State → Bytes → Bytes
from_frame reached bytes = if is_after_return reached then drop 1 bytes else bytes

abbrev pub frames_from : State → Option Bytes → List (Option Bytes)
frames_from reached None = []
frames_from reached (Some bytes) = frames (from_frame reached bytes) true

abbrev pub unread_frames : Bool → ByteReader → List (Option Bytes)
unread_frames goes_on reader = if goes_on then frames_from (reader_state reader) (unread_bytes reader) else []

-- bytes that read, from this state, as a run from its start
pub record ReadsAsRun (reached : State) (bytes : Bytes) : Type 0 where
  pub run : is_run (from_frame reached bytes) ≡ true
  pub same : next_record default_config reached [] [] bytes ≡ next_record default_config state.StartRecord [] [] (from_frame reached bytes)

pub record IsSetUp (reader : ByteReader) (bytes : Bytes) : Type 0 where
  pub config : reader_config reader ≡ default_config
  pub trim : reader_trim reader ≡ trim.None
  pub ready : Ready reader
  pub flexible : is_flexible reader ≡ true
  pub at : ReadsAsRun (reader_state reader) bytes

-- a reader that stands in a run, before one of its frames
abbrev pub ReadsRun : ByteReader → Type 0
ReadsRun reader = MatchOption (unread_bytes reader) ⊥ (IsSetUp reader)

-- the fields are the record of the first frame that was left, and the others are left now; or none was left and none is
abbrev pub GivesNext : Bool → List (Option Bytes) → List (Option Bytes) → List Bytes → Type 0
GivesNext true old new fields = (frame : Bytes) × (old ≡ Some frame ∷ new) × (good_record frame ≡ Some fields)
GivesNext false old new fields = (old ≡ []) × (new ≡ [])
