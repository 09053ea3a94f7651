-- The cuts of a text, byte by byte.
use Rattle.std.proofs.Common.{◌≡◌, ℕ, ◌+◌, ◌<◌, ◌==◌, Bool, true, false, List, [], ◌∷◌, ◌++◌, length, get_or, take, drop, Some, None, arith, refl, sym, ap, ◌∙◌, append-nil, length-take-le}
use Rattle.std.proofs.lemmas.List.{drop_all, drop_more, take_more}
use Rattle.csv_frame.specs.Frames.{GoesOn, long_from, longest_frame}
use Rattle.csv_frame.specs.Scanning.{CutsAt, GoesOnAt, ScansLong, ends_piece, quoted_after, scanned_after, scanned_pieces}

-- a byte that ends the cut
step_end : (quoted : Bool) (front bytes : List ℕ) (byte : ℕ) (ended : Bool) → ends_piece quoted byte ≡ true
    → scanned_after quoted front (byte ∷ bytes) ended ≡ Some front ∷ scanned_pieces bytes ended
step_end quoted front bytes byte ended e = rw e refl

-- a byte too much
step_long : (quoted : Bool) (front bytes : List ℕ) (byte : ℕ) (ended : Bool) → ends_piece quoted byte ≡ false → (length front == longest_frame) ≡ true
    → scanned_after quoted front (byte ∷ bytes) ended ≡ None ∷ []
step_long quoted front bytes byte ended e long = rw (e, long) refl

-- any other byte
step_on : (quoted : Bool) (front bytes : List ℕ) (byte : ℕ) (ended : Bool) → ends_piece quoted byte ≡ false → (length front == longest_frame) ≡ false
    → scanned_after quoted front (byte ∷ bytes) ended ≡ scanned_after (quoted_after quoted byte) (front ++ byte ∷ []) bytes ended
step_on quoted front bytes byte ended e short = rw (e, short) refl

pub cut_here : (bytes : List ℕ) (quoted : Bool) (at : ℕ) → at < length bytes → ends_piece quoted (get_or bytes at 0) ≡ true
    → GoesOnAt bytes quoted at → CutsAt bytes at
cut_here bytes quoted at h e g more ended =
    g more ended ∙ ap (λ (bs : List ℕ). scanned_after quoted (take at bytes) (bs ++ more) ended) (drop_more bytes at 0 h)
    ∙ step_end quoted (take at bytes) (drop (at + 1) bytes ++ more) (get_or bytes at 0) ended e

pub cut_too_long : (bytes : List ℕ) (quoted : Bool) (at : ℕ) → at < length bytes → ends_piece quoted (get_or bytes at 0) ≡ false → at ≡ longest_frame
    → GoesOnAt bytes quoted at → ScansLong bytes
cut_too_long bytes quoted at h e long g =
    let full : (length (take at bytes) == longest_frame) ≡ true = rw (length-take-le at bytes (omega arith), long) refl in (
      omega arith,
      λ more ended. g more ended ∙ ap (λ (bs : List ℕ). scanned_after quoted (take at bytes) (bs ++ more) ended) (drop_more bytes at 0 h)
          ∙ step_long quoted (take at bytes) (drop (at + 1) bytes ++ more) (get_or bytes at 0) ended e full,
    )

pub cut_on : (bytes : List ℕ) (quoted : Bool) (at : ℕ) → at < length bytes → ends_piece quoted (get_or bytes at 0) ≡ false → (at == longest_frame) ≡ false
    → GoesOnAt bytes quoted at → GoesOnAt bytes (quoted_after quoted (get_or bytes at 0)) (at + 1)
cut_on bytes quoted at h e short g more ended =
    let room : (length (take at bytes) == longest_frame) ≡ false = rw (length-take-le at bytes (omega arith)) short in
    g more ended ∙ ap (λ (bs : List ℕ). scanned_after quoted (take at bytes) (bs ++ more) ended) (drop_more bytes at 0 h)
    ∙ step_on quoted (take at bytes) (drop (at + 1) bytes ++ more) (get_or bytes at 0) ended e room
    ∙ ap (λ (bs : List ℕ). scanned_after (quoted_after quoted (get_or bytes at 0)) bs (drop (at + 1) bytes ++ more) ended) (sym (take_more bytes at 0 h))

-- bytes without the end of their cut
pub cut_open : (bytes : List ℕ) (quoted : Bool) (at : ℕ) (told : Bool) → at ≡ length bytes → GoesOnAt bytes quoted at → told ≡ false → scanned_pieces bytes told ≡ []
cut_open bytes quoted at told all g e =
    sym (ap (λ (bs : List ℕ). scanned_pieces bs told) (append-nil bytes)) ∙ g [] told
    ∙ ap (λ (bs : List ℕ). scanned_after quoted (take at bytes) (bs ++ []) told) (drop_all at bytes (omega arith)) ∙ rw e refl

pub cut_empty : (bytes : List ℕ) (told : Bool) → length bytes ≡ 0 → scanned_pieces bytes told ≡ []
cut_empty [] true e = refl
cut_empty [] false e = refl
cut_empty (byte ∷ bytes) told e = absurd (omega arith)

-- where the first piece ends, the offset at which one that is too long begins is told of those after it
pub offset_cut : (bytes : List ℕ) (at : ℕ) → at < length bytes → CutsAt bytes at → (from : ℕ) (more : List ℕ) (ended : Bool)
    → long_from from (scanned_pieces (bytes ++ more) ended) ≡ long_from (from + (at + 1)) (scanned_pieces (drop (at + 1) bytes ++ more) ended)
offset_cut bytes at h cut from more ended =
    let count : from + length (take at bytes) + 1 ≡ from + (at + 1) = omega (arith, length-take-le at bytes (omega arith)) in
    ap (long_from from) (cut more ended) ∙ ap (λ (n : ℕ). long_from n (scanned_pieces (drop (at + 1) bytes ++ more) ended)) count

-- behind the last piece of a text that has ended nothing comes
pub offset_last : (bytes : List ℕ) (end next : ℕ) (told : Bool) → told ≡ true → next ≡ length bytes
    → ((more : List ℕ) (ended : Bool) → GoesOn told more ended → scanned_pieces (bytes ++ more) ended ≡ Some (take end bytes) ∷ scanned_pieces (drop next bytes ++ more) ended)
    → (from : ℕ) (more : List ℕ) (ended : Bool) → GoesOn told more ended
    → long_from from (scanned_pieces (bytes ++ more) ended) ≡ long_from (from + next) (scanned_pieces (drop next bytes ++ more) ended)
offset_last bytes end next told t all cut from more ended goes =
    let none : scanned_pieces (drop next bytes ++ more) ended ≡ [] =
    ap (λ (bs : List ℕ). scanned_pieces (bs ++ more) ended) (drop_all next bytes (omega arith))
    ∙ ap (λ (bs : List ℕ). scanned_pieces bs ended) (goes t).0 ∙ ap (λ (e : Bool). scanned_pieces [] e) (goes t).1 in
    ap (long_from from) (cut more ended goes) ∙ ap (long_from (from + length (take end bytes) + 1)) none ∙ sym (ap (long_from (from + next)) none)
