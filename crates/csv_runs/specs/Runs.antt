-- Runs: bytes that one reader of CSV reads frame by frame, as if each frame were alone.
use Rattle.std.specs.Prelude.{ℕ, ◌==◌, ◌+◌, Bool, true, false, [], ◌∷◌, Option, Some, None, if◌then◌else◌}
use Rattle.med_prelude.specs.Texts.{Bytes}
use Rattle.csv_frame.specs.Frames.{carriage_return, longest_frame, quote}
use Rattle.csv_frame.specs.Scanning.{ends_piece}
use Rattle.csv_runs.specs.declared.runs.Mode.{Mode}
use Rattle.csv_runs.specs.declared.runs.Mode.TheVariants as mode

abbrev pub comma : ℕ
comma = 44

-- the first byte of a byte order mark
abbrev pub mark_start : ℕ
mark_start = 239

abbrev pub is_quoted : Mode → Bool
is_quoted mode.InQuotes = true
is_quoted mode.FrameStart = false
is_quoted mode.FieldStart = false
is_quoted mode.InField = false
is_quoted mode.AfterQuote = false
is_quoted mode.AfterReturn = false

-- where a byte outside quotes leads that is no quote
abbrev pub after_plain : ℕ → Mode
after_plain byte = if byte == comma then mode.FieldStart else if byte == carriage_return then mode.AfterReturn else mode.InField

abbrev pub after_open : ℕ → Mode
after_open byte = if byte == quote then mode.InQuotes else after_plain byte

-- Where a byte leads that doesn't end its frame. A run has no quote inside a field that began without one,
-- no CR but before a line feed, and no byte that may begin a byte order mark at a frame's start.
abbrev pub mode_after : Mode → ℕ → Option Mode
mode_after mode.FrameStart byte = if byte == mark_start then None else Some (after_open byte)
mode_after mode.FieldStart byte = Some (after_open byte)
mode_after mode.InField byte = if byte == quote then None else Some (after_plain byte)
mode_after mode.InQuotes byte = Some (if byte == quote then mode.AfterQuote else mode.InQuotes)
mode_after mode.AfterQuote byte = Some (after_open byte)
mode_after mode.AfterReturn byte = None

abbrev pub holds_after : Option Mode → (Mode → Bool) → Bool
holds_after None test = false
holds_after (Some here) test = test here

-- the bytes end a run, where so many bytes of its frame stand before them
abbrev pub run_from : ℕ → Mode → Bytes → Bool
run_from count here [] = count == 0
run_from count here (byte ∷ bytes) =
    if ends_piece (is_quoted here) byte then run_from 0 mode.FrameStart bytes
    else if count == longest_frame then false
    else holds_after (mode_after here byte) (λ next. run_from (count + 1) next bytes)

abbrev pub is_run : Bytes → Bool
is_run bytes = run_from 0 mode.FrameStart bytes
