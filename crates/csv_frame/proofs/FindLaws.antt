-- A frame found among the bytes that are held.
use Rattle.std.proofs.Common.{◌≡◌, ℕ, ◌+◌, ◌≤◌, Bool, true, false, List, [], ◌∷◌, ◌++◌, length, take, drop, slice_range, Option, Some, arith, refl, sym, ap, ◌∙◌, add_assoc}
use Rattle.std.proofs.lemmas.List.{drop-drop, drop-take, length-drop, length-take-le}
use Rattle.std.proofs.lemmas.Slice.{between_is}
use Rattle.csv_frame.specs.Frames.{GoesOn, frames, frames_of, is_blank, long_from, pieces, without_marks}
use Rattle.csv_frame.specs.Scanning.{IsWholeCut, ScansLong, scanned_pieces}
use Rattle.csv_frame.specs.Holding.{GivesFrames, IsAtHand, IsTooLong, KeepsLong, held_of}
use Rattle.csv_frame.proofs.PieceLaws.{frames_are, pieces_are}

kept_frame : (piece : List ℕ) (more : List (Option (List ℕ))) → is_blank (without_marks piece) ≡ false → frames_of (Some piece ∷ more) ≡ Some (without_marks piece) ∷ frames_of more
kept_frame piece more e = rw e refl

span_is : (bytes : List ℕ) (start marks end : ℕ) → slice_range bytes (start + marks) (start + end) ≡ drop marks (take end (drop start bytes))
span_is bytes start marks end =
    between_is bytes (start + marks) (start + end) ∙ sym (drop-drop marks start (take (start + end) bytes)) ∙ ap (drop marks) (drop-take start end bytes)

-- the bytes are cut in two, and the frames and offsets of the second part follow
cut_frames : (bytes : List ℕ) (told : Bool) (end next : ℕ) → IsWholeCut bytes told end next → (more : List ℕ) (ended : Bool) → GoesOn told more ended
    → frames (bytes ++ more) ended ≡ frames_of (Some (take end bytes) ∷ pieces (drop next bytes ++ more) ended)
cut_frames bytes told end next whole more ended goes =
    frames_are (bytes ++ more) ended ∙ ap frames_of (whole.cut more ended goes)
    ∙ ap (λ (ps : List (Option (List ℕ))). frames_of (Some (take end bytes) ∷ ps)) (sym (pieces_are (drop next bytes ++ more) ended))

cut_offsets : (bytes : List ℕ) (told : Bool) (end next : ℕ) → IsWholeCut bytes told end next → (from : ℕ) (more : List ℕ) (ended : Bool) → GoesOn told more ended
    → long_from from (pieces (bytes ++ more) ended) ≡ long_from (from + next) (pieces (drop next bytes ++ more) ended)
cut_offsets bytes told end next whole from more ended goes =
    ap (long_from from) (pieces_are (bytes ++ more) ended) ∙ whole.offset from more ended goes ∙ ap (long_from (from + next)) (sym (pieces_are (drop next bytes ++ more) ended))

pub frame_found : (bytes rest frame : List ℕ) (start before : ℕ) (told : Bool) (next end marks : ℕ)
    → rest ≡ drop start bytes → frame ≡ take end rest → start ≤ length bytes → IsWholeCut rest told end next
    → marks ≤ length frame → drop marks frame ≡ without_marks frame → is_blank (drop marks frame) ≡ false
    → IsAtHand (held_of bytes start before told) (record { from = start + marks; end = start + end }) next
frame_found bytes rest frame start before told next end marks is_rest is_frame within whole h is_marked shown =
    let inside : start + next ≤ length bytes = omega (arith, whole.inside, ap length is_rest, length-drop start bytes) in
    let span = slice_range bytes (start + marks) (start + end) in
    let is_span : drop marks frame ≡ span = ap (drop marks) (is_frame ∙ ap (take end) is_rest) ∙ sym (span_is bytes start marks end) in
    let unmarked : without_marks (take end rest) ≡ drop marks frame = ap without_marks (sym is_frame) ∙ sym is_marked in
    record {
      good = (omega (arith, ap length is_frame, length-take-le end rest whole.within, h), omega (arith, whole.order, inside));
      some = whole.some;
      inside = omega (arith, inside, length-drop start bytes);
      first = λ more ended goes. ap (λ (bs : List ℕ). frames (bs ++ more) ended) (sym is_rest) ∙ cut_frames rest told end next whole more ended goes
          ∙ kept_frame (take end rest) (pieces (drop next rest ++ more) ended) (ap is_blank unmarked ∙ shown)
          ∙ ap (λ (f : List ℕ). Some f ∷ frames (drop next rest ++ more) ended) (unmarked ∙ is_span)
          ∙ ap (λ (bs : List ℕ). Some span ∷ frames (bs ++ more) ended) (ap (drop next) is_rest);
      offset = λ more ended goes. ap (λ (bs : List ℕ). long_from (before + start) (pieces (bs ++ more) ended)) (sym is_rest) ∙ cut_offsets rest told end next whole (before + start) more ended goes
          ∙ ap (λ (bs : List ℕ). long_from (before + start + next) (pieces (bs ++ more) ended)) (ap (drop next) is_rest);
    }

-- a frame that is skipped
pub frame_skipped : (bytes rest frame : List ℕ) (start before : ℕ) (told : Bool) (next end marks : ℕ)
    → rest ≡ drop start bytes → frame ≡ take end rest → IsWholeCut rest told end next
    → drop marks frame ≡ without_marks frame → is_blank (drop marks frame) ≡ true
    → GivesFrames (held_of bytes start before told) [] (held_of bytes (start + next) before told) × KeepsLong (held_of bytes start before told) (held_of bytes (start + next) before told)
frame_skipped bytes rest frame start before told next end marks is_rest is_frame whole is_marked blank =
    let left : drop next rest ≡ drop (start + next) bytes = ap (drop next) is_rest ∙ drop-drop next start bytes in
    let skipped : is_blank (without_marks (take end rest)) ≡ true = ap is_blank (ap without_marks (sym is_frame) ∙ sym is_marked) ∙ blank in (
      λ more ended goes. ap (λ (bs : List ℕ). frames (bs ++ more) ended) (sym is_rest) ∙ cut_frames rest told end next whole more ended goes
          ∙ rw skipped refl ∙ ap (λ (bs : List ℕ). frames (bs ++ more) ended) left,
      λ more ended goes. ap (λ (bs : List ℕ). long_from (before + start) (pieces (bs ++ more) ended)) (sym is_rest) ∙ cut_offsets rest told end next whole (before + start) more ended goes
          ∙ ap (λ (n : ℕ). long_from n (pieces (drop next rest ++ more) ended)) (add_assoc before start next)
          ∙ ap (λ (bs : List ℕ). long_from (before + (start + next)) (pieces (bs ++ more) ended)) left,
    )

pub long_found : (rest bytes : List ℕ) → rest ≡ bytes → ScansLong rest → IsTooLong bytes
long_found rest bytes is long = rw (← is) (long.0, λ more ended. pieces_are (rest ++ more) ended ∙ long.1 more ended)

pub none_found : (rest bytes : List ℕ) (told : Bool) → rest ≡ bytes → scanned_pieces rest told ≡ [] → frames bytes told ≡ []
none_found rest bytes told is none = ap (λ (bs : List ℕ). frames bs told) (sym is) ∙ frames_are rest told ∙ ap frames_of none
