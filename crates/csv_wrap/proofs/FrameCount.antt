-- A text has no more frames than bytes.
use Rattle.std.proofs.Common.{◌≡◌, ℕ, ◌+◌, ◌≤◌, ◌==◌, Bool, true, false, List, [], ◌∷◌, ◌++◌, length, Option, Some, None, arith, length-append, refl, ap, if◌then◌else◌}
use Rattle.csv_frame.specs.Frames.{frames, frames_of, is_blank, longest_frame, without_marks}
use Rattle.csv_frame.specs.Scanning.{ends_piece, open_piece, quoted_after, scanned_after, scanned_pieces}
use Rattle.csv_frame.proofs.PieceLaws.{frames_are}

last_short : (front : List ℕ) → length (open_piece front) ≤ length front
last_short [] = omega arith
last_short (byte ∷ front) = omega arith

pieces_step : (quoted : Bool) (front bytes : List ℕ) (byte : ℕ) (ended ends long : Bool) → ends_piece quoted byte ≡ ends → (length front == longest_frame) ≡ long
    → ((q : Bool) (f : List ℕ) → length (scanned_after q f bytes ended) ≤ length bytes + length f)
    → length (scanned_after quoted front (byte ∷ bytes) ended) ≤ length (byte ∷ bytes) + length front
pieces_step quoted front bytes byte ended true long is l rest = rw is (omega (arith, rest false []))
pieces_step quoted front bytes byte ended false true is l rest = rw (is, l) (omega arith)
pieces_step quoted front bytes byte ended false false is l rest =
    rw (is, l) (omega (arith, rest (quoted_after quoted byte) (front ++ byte ∷ []), length-append front (byte ∷ [])))

pieces_short : (quoted : Bool) (front bytes : List ℕ) (ended : Bool) → length (scanned_after quoted front bytes ended) ≤ length bytes + length front
pieces_short quoted front [] true = omega (arith, last_short front)
pieces_short quoted front [] false = omega arith
pieces_short quoted front (byte ∷ bytes) ended =
    pieces_step quoted front bytes byte ended (ends_piece quoted byte) (length front == longest_frame) refl refl (λ q f. pieces_short q f bytes ended)

kept_short : (found : List (Option (List ℕ))) → length (frames_of found) ≤ length found
kept_short [] = omega arith
kept_short (None ∷ more) = omega arith
kept_short (Some cut ∷ more) =
    elim (is_blank (without_marks cut)) as (λ (b : Bool). length (if b then frames_of more else Some (without_marks cut) ∷ frames_of more) ≤ length (Some cut ∷ more)) [
      | true ↦ omega (arith, kept_short more)
      | false ↦ omega (arith, kept_short more)
    ]

pub frames_short : (text : List ℕ) (ended : Bool) → length (frames text ended) ≤ length text
frames_short text ended = omega (arith, ap length (frames_are text ended), kept_short (scanned_pieces text ended), pieces_short false [] text ended)
