-- The pieces of a text as one pass over its bytes finds them. Its mode is whether quotes are open.
--
-- What holds of a text that may go on is known for each way in which more bytes may follow.
use Rattle.std.specs.Prelude.{◌≡◌, ℕ, ◌+◌, ◌<◌, ◌≤◌, ◌==◌, ◌&&◌, not, Bool, false, List, [], ◌∷◌, ◌++◌, length, take, drop, Option, Some, None, if◌then◌else◌}
use Rattle.med_prelude.specs.Texts.{Bytes}
use Rattle.csv_frame.specs.Frames.{GoesOn, line_feed, long_from, longest_frame, quote}
use Rattle.csv_frame.specs.declared.cuts.Scan.{Scan}
use Rattle.csv_frame.specs.declared.cuts.Scanned.{Scanned}
use Rattle.csv_frame.specs.declared.cuts.Scanned.TheVariants as scanned
use Rattle.csv_frame.specs.declared.cuts.Cut.{Cut}
use Rattle.csv_frame.specs.declared.cuts.Cut.TheVariants as cut

-- a line feed outside quotes ends a piece
abbrev pub ends_piece : Bool → ℕ → Bool
ends_piece quoted byte = (byte == line_feed) && not quoted

-- whether quotes are open after the byte
abbrev pub quoted_after : Bool → ℕ → Bool
quoted_after quoted byte = if byte == quote then not quoted else quoted

-- the bytes after the last line feed are a piece where there are any
abbrev pub open_piece : Bytes → List (Option Bytes)
open_piece [] = []
open_piece (byte ∷ bytes) = Some (byte ∷ bytes) ∷ []

-- the pieces of what is left of a text, whose first began with `front`
abbrev pub scanned_after : Bool → Bytes → Bytes → Bool → List (Option Bytes)
scanned_after quoted front [] ended = if ended then open_piece front else []
scanned_after quoted front (byte ∷ bytes) ended =
    if ends_piece quoted byte then Some front ∷ scanned_after false [] bytes ended
    else if length front == longest_frame then None ∷ []
    else scanned_after (quoted_after quoted byte) (front ++ byte ∷ []) bytes ended

abbrev pub scanned_pieces : Bytes → Bool → List (Option Bytes)
scanned_pieces text ended = scanned_after false [] text ended

-- the pieces go on from where the scan is
abbrev pub GoesOnAt : Bytes → Bool → ℕ → Type 0
GoesOnAt bytes quoted at = (more : Bytes) (ended : Bool) → scanned_pieces (bytes ++ more) ended ≡ scanned_after quoted (take at bytes) (drop at bytes ++ more) ended

pub record IsScannedTo (bytes : Bytes) (quoted : Bool) (at : ℕ) : Type 0 where
  pub within : at ≤ length bytes
  pub short : at ≤ longest_frame
  pub same : GoesOnAt bytes quoted at

abbrev pub IsScanned : Bytes → Scan → Type 0
IsScanned bytes scan = IsScannedTo bytes scan.quoted scan.seen

-- the first piece ends at that offset
abbrev pub CutsAt : Bytes → ℕ → Type 0
CutsAt bytes at = (more : Bytes) (ended : Bool) → scanned_pieces (bytes ++ more) ended ≡ Some (take at bytes) ∷ scanned_pieces (drop (at + 1) bytes ++ more) ended

abbrev pub ScansLong : Bytes → Type 0
ScansLong bytes = (longest_frame < length bytes) × ((more : Bytes) (ended : Bool) → scanned_pieces (bytes ++ more) ended ≡ None ∷ [])

abbrev pub HoldsCut : Bytes → Scan → Scanned → Type 0
HoldsCut bytes scan (scanned.LineFeed at) = (at < length bytes) × CutsAt bytes at
HoldsCut bytes scan scanned.TooLong = ScansLong bytes
HoldsCut bytes scan scanned.All = scan.seen ≡ length bytes

-- The first piece ends at `end`, and the next one begins at `next`: behind a line feed, or at the text's end.
pub record IsWholeCut (bytes : Bytes) (told : Bool) (end next : ℕ) : Type 0 where
  pub within : end ≤ length bytes
  pub order : end ≤ next
  pub some : 0 < next
  pub inside : next ≤ length bytes
  pub cut : (more : Bytes) (ended : Bool) → GoesOn told more ended → scanned_pieces (bytes ++ more) ended ≡ Some (take end bytes) ∷ scanned_pieces (drop next bytes ++ more) ended
  pub offset : (from : ℕ) (more : Bytes) (ended : Bool) → GoesOn told more ended → long_from from (scanned_pieces (bytes ++ more) ended) ≡ long_from (from + next) (scanned_pieces (drop next bytes ++ more) ended)

abbrev pub IsCut : Bytes → Bool → Cut → Type 0
IsCut bytes told (cut.Whole end next) = IsWholeCut bytes told end next
IsCut bytes told cut.TooLong = ScansLong bytes
IsCut bytes told cut.Nothing = scanned_pieces bytes told ≡ []
