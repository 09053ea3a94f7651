-- Byte order marks, dropped one after the other.
use Rattle.std.proofs.Common.{◌≡◌, ℕ, ◌+◌, ◌≤◌, true, false, List, [], ◌∷◌, length, drop, arith, refl}
use Rattle.std.proofs.lemmas.List.{drop-drop, length-drop}
use Rattle.csv_frame.specs.Frames.{without_marks}
use Rattle.csv_frame.specs.Marks.{begins_with_mark}

marked : (bytes : List ℕ) → begins_with_mark bytes ≡ true → (3 ≤ length bytes) × (without_marks (drop 3 bytes) ≡ without_marks bytes)
marked [] e = cc
marked (a ∷ []) e = cc
marked (a ∷ b ∷ []) e = cc
marked (a ∷ b ∷ c ∷ bytes) e = (omega arith, rw e refl)

pub mark_dropped : (frame : List ℕ) (at : ℕ) → at ≤ length frame → begins_with_mark (drop at frame) ≡ true
    → (at + 3 ≤ length frame) × (without_marks (drop (at + 3) frame) ≡ without_marks (drop at frame))
mark_dropped frame at h e =
    let m = marked (drop at frame) e in
    (omega (arith, length-drop at frame, m.0), rw (← drop-drop 3 at frame) m.1)

pub unmarked : (bytes : List ℕ) → begins_with_mark bytes ≡ false → without_marks bytes ≡ bytes
unmarked [] e = refl
unmarked (a ∷ []) e = refl
unmarked (a ∷ b ∷ []) e = refl
unmarked (a ∷ b ∷ c ∷ bytes) e = rw e refl
