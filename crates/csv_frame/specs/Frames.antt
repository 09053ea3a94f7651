-- The frames of a text.
use Rattle.std.specs.Prelude.{◌≡◌, ℕ, ◌==◌, ◌&&◌, ◌||◌, ◌+◌, ◌%◌, nat_lt, Bool, true, false, List, [], ◌∷◌, length, take, drop, slice_range, map, filter, count_by, Option, Some, None, if◌then◌else◌}
use Rattle.std.specs.List.{enumerate_from}
use Rattle.med_prelude.specs.Texts.{Bytes}

abbrev pub line_feed : ℕ
line_feed = 10

abbrev pub carriage_return : ℕ
carriage_return = 13

abbrev pub quote : ℕ
quote = 34

-- the most bytes of a frame, its byte order marks counted
abbrev pub longest_frame : ℕ
longest_frame = 4194304

abbrev pub has_even_quotes : Bytes → Bool
has_even_quotes bytes = count_by (λ byte. byte == quote) bytes % 2 == 0

-- whether a text is cut at a byte, which is given with its offset: at a line feed with an even number of quotes before it
abbrev pub is_cut : Bytes → ℕ × ℕ → Bool
is_cut text (at, byte) = (byte == line_feed) && has_even_quotes (take at text)

-- the offsets at which a text is cut
abbrev pub cut_offsets : Bytes → List ℕ
cut_offsets text = map (λ pair. pair.0) (filter (is_cut text) (enumerate_from 0 text))

abbrev pub is_long : Bytes → Bool
is_long piece = nat_lt longest_frame (length piece)

-- A piece of a text, and those after it. None stands for one that is too long, and is the last.
abbrev pub piece_before : Bytes → List (Option Bytes) → List (Option Bytes)
piece_before piece more = if is_long piece then None ∷ [] else Some piece ∷ more

-- The bytes after the last cut are a piece where there are any and the text has ended, or where they are too long already.
abbrev pub last_piece : Bytes → Bool → List (Option Bytes)
last_piece [] ended = []
last_piece (byte ∷ bytes) ended = if ended || is_long (byte ∷ bytes) then piece_before (byte ∷ bytes) [] else []

-- the pieces of a text from an offset on, which is cut at these offsets
abbrev pub pieces_from : ℕ → List ℕ → Bytes → Bool → List (Option Bytes)
pieces_from from [] text ended = last_piece (drop from text) ended
pieces_from from (at ∷ cuts) text ended = piece_before (slice_range text from at) (pieces_from (at + 1) cuts text ended)

-- the pieces of a text between its cuts
unfoldable pub pieces : Bytes → Bool → List (Option Bytes)
pieces text ended = pieces_from 0 (cut_offsets text) text ended

-- the byte order mark: EF BB BF
abbrev pub is_mark : ℕ → ℕ → ℕ → Bool
is_mark a b c = (a == 239) && (b == 187) && (c == 191)

-- the bytes without the marks at their start, dropped one after the other
abbrev pub without_marks : Bytes → Bytes
without_marks [] = []
without_marks (a ∷ []) = a ∷ []
without_marks (a ∷ b ∷ []) = a ∷ b ∷ []
without_marks (a ∷ b ∷ c ∷ bytes) = if is_mark a b c then without_marks bytes else a ∷ b ∷ c ∷ bytes

-- a frame that is skipped: an empty one, or one that is only CR
abbrev pub is_blank : Bytes → Bool
is_blank [] = true
is_blank (byte ∷ []) = byte == carriage_return
is_blank (a ∷ b ∷ bytes) = false

-- the pieces without their marks, those that are blank left out; one that is too long is the last
abbrev pub frames_of : List (Option Bytes) → List (Option Bytes)
frames_of [] = []
frames_of (None ∷ more) = None ∷ []
frames_of (Some piece ∷ more) = if is_blank (without_marks piece) then frames_of more else Some (without_marks piece) ∷ frames_of more

-- The frames of a text, in its order. The bytes after the last line feed are a frame only where the text has
-- ended. None stands for a frame that is too long, whole or not, and is the last.
abbrev pub frames : Bytes → Bool → List (Option Bytes)
frames text ended = frames_of (pieces text ended)

-- the offset at which the piece that is too long begins, where the first of these begins at an offset
abbrev pub long_from : ℕ → List (Option Bytes) → Option ℕ
long_from at [] = None
long_from at (None ∷ more) = Some at
long_from at (Some piece ∷ more) = long_from (at + length piece + 1) more

-- the offset at which the frame of a text begins that is too long
abbrev pub long_offset : Bytes → Bool → Option ℕ
long_offset text ended = long_from 0 (pieces text ended)

-- More bytes may follow, and then the text's end may; where the end was told, nothing does.
abbrev pub GoesOn : Bool → Bytes → Bool → Type 0
GoesOn told more ended = told ≡ true → (more ≡ []) × (ended ≡ true)
