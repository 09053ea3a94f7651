-- One pass over the bytes finds the pieces of a text.
use Rattle.std.proofs.Common.{◌≡◌, ℕ, ◌+◌, ◌<◌, ◌≤◌, ◌==◌, ◌&&◌, ◌%◌, not, Bool, true, false, List, [], ◌∷◌, ◌++◌, length, drop, slice_range, map, filter, count_by, Option, Some, None, arith, refl, sym, ap, ◌∙◌, append_assoc, append-nil, length-append, if◌then◌else◌}
use Rattle.std.proofs.Math.Seq.{drop-length, take-append_seam}
use Rattle.std.proofs.lemmas.Bool.{eqb-false, eqb-true}
use Rattle.std.proofs.lemmas.Bool.Decides.{nat_tests}
use Rattle.std.proofs.lemmas.List.{drop-append-le, length-drop}
use Rattle.std.proofs.lemmas.List.Sums.{sum_by-append, sum_by-cons}
use Rattle.std.proofs.lemmas.Slice.{between_is}
use Rattle.std.specs.List.{enumerate_from}
use Rattle.csv_frame.specs.Frames.{frames, frames_of, has_even_quotes, is_cut, is_long, last_piece, line_feed, longest_frame, piece_before, pieces, pieces_from, quote}
use Rattle.csv_frame.specs.Scanning.{ends_piece, open_piece, quoted_after, scanned_after, scanned_pieces}

-- the offsets of cuts among the bytes from an offset on
abbrev cuts_in : List ℕ → ℕ → List ℕ → List ℕ
cuts_in text at bytes = map (λ pair. pair.0) (filter (is_cut text) (enumerate_from at bytes))

short : (piece : List ℕ) → length piece ≤ longest_frame → is_long piece ≡ false
short piece h = grind (arith, nat_tests)

long : (piece : List ℕ) → longest_frame < length piece → is_long piece ≡ true
long piece h = grind (arith, nat_tests)

last_short : (front : List ℕ) (ended : Bool) → length front ≤ longest_frame → last_piece front ended ≡ (if ended then open_piece front else [])
last_short [] true h = refl
last_short [] false h = refl
last_short (byte ∷ front) true h = rw (short (byte ∷ front) h) refl
last_short (byte ∷ front) false h = rw (short (byte ∷ front) h) refl

last_long : (front : List ℕ) (ended : Bool) → longest_frame < length front → last_piece front ended ≡ None ∷ []
last_long [] ended h = absurd (omega arith)
last_long (byte ∷ front) true h = rw (long (byte ∷ front) h) refl
last_long (byte ∷ front) false h = rw (long (byte ∷ front) h) refl

-- the quotes with one more byte
odd_next : (n : ℕ) (even : Bool) → (n % 2 == 0) ≡ even → ((n + 1) % 2 == 0) ≡ not even
odd_next n true e = let is = eqb-true (n % 2) 0 e in let next : (n + 1) % 2 ≡ 1 = omega arith in rw next refl
odd_next n false e =
    let is = eqb-false (n % 2) 0 e in
    let next : (n + 1) % 2 ≡ 0 = omega arith in rw next refl

count_next : (head : List ℕ) (byte : ℕ) (x : Bool) → (byte == quote) ≡ x
    → count_by (λ b. b == quote) (head ++ byte ∷ []) ≡ (if x then count_by (λ b. b == quote) head + 1 else count_by (λ b. b == quote) head)
count_next head byte true e = sum_by-append (λ (b : ℕ). if b == quote then 1 else 0) head (byte ∷ []) ∙ rw (sum_by-cons, e) (omega arith)
count_next head byte false e = sum_by-append (λ (b : ℕ). if b == quote then 1 else 0) head (byte ∷ []) ∙ rw (sum_by-cons, e) (omega arith)

even_next : (head : List ℕ) (byte : ℕ) (x : Bool) → (byte == quote) ≡ x
    → has_even_quotes (head ++ byte ∷ []) ≡ (if x then not (has_even_quotes head) else has_even_quotes head)
even_next head byte true e = rw (count_next head byte true e) (odd_next (count_by (λ b. b == quote) head) (has_even_quotes head) refl)
even_next head byte false e = rw (count_next head byte false e) refl

not_twice : (x : Bool) → not (not x) ≡ x
not_twice true = refl
not_twice false = refl

-- the mode after a byte, where it was the one of the quotes before
mode_next : (head : List ℕ) (byte : ℕ) (quoted : Bool) → quoted ≡ not (has_even_quotes head) → quoted_after quoted byte ≡ not (has_even_quotes (head ++ byte ∷ []))
mode_next head byte quoted is = elim (byte == quote) as (λ x. (byte == quote) ≡ x → (if x then not quoted else quoted) ≡ not (has_even_quotes (head ++ byte ∷ []))) [
  | true ↦ λ e. ap not is ∙ sym (ap not (even_next head byte true e))
  | false ↦ λ e. is ∙ sym (ap not (even_next head byte false e))
] refl

-- quotes are closed behind the end of a piece
closes : (quoted : Bool) (byte : ℕ) → ends_piece quoted byte ≡ true → quoted_after quoted byte ≡ false
closes true byte e = elim (byte == line_feed) as (λ x. (x && false) ≡ true → quoted_after true byte ≡ false) [ true ↦ λ c. cc | false ↦ λ c. cc ] e
closes false byte e = elim (byte == line_feed) as (λ x. (byte == line_feed) ≡ x → (x && true) ≡ true → quoted_after false byte ≡ false) [
  | true ↦ λ is c. rw (eqb-true byte line_feed is) refl
  | false ↦ λ is c. cc
] refl e

-- a text is cut at a byte just where the byte ends a piece
cut_is : (head bytes : List ℕ) (byte : ℕ) (quoted : Bool) → quoted ≡ not (has_even_quotes head) → is_cut (head ++ byte ∷ bytes) (length head, byte) ≡ ends_piece quoted byte
cut_is head bytes byte quoted is =
    ap (λ (hs : List ℕ). (byte == line_feed) && has_even_quotes hs) (take-append_seam head (byte ∷ bytes))
    ∙ ap (λ (x : Bool). (byte == line_feed) && x) (sym (not_twice (has_even_quotes head)) ∙ ap not (sym is))

-- the cuts from an offset on, at a byte that is one and at another
cut_first : (text bytes : List ℕ) (at byte : ℕ) → is_cut text (at, byte) ≡ true → cuts_in text at (byte ∷ bytes) ≡ at ∷ cuts_in text (at + 1) bytes
cut_first text bytes at byte e = rw e refl

cut_later : (text bytes : List ℕ) (at byte : ℕ) → is_cut text (at, byte) ≡ false → cuts_in text at (byte ∷ bytes) ≡ cuts_in text (at + 1) bytes
cut_later text bytes at byte e = rw e refl

-- a piece that ends here
piece_is : (head bytes : List ℕ) (from : ℕ) → slice_range (head ++ bytes) from (length head) ≡ drop from head
piece_is head bytes from = between_is (head ++ bytes) from (length head) ∙ ap (drop from) (take-append_seam head bytes)

-- what is left of a text, of which `head` was passed, whose piece at hand began at an offset
abbrev left_from : ℕ → List ℕ → List ℕ → Bool → List (Option (List ℕ))
left_from from head bytes ended = pieces_from from (cuts_in (head ++ bytes) (length head) bytes) (head ++ bytes) ended

-- one byte on
step_on : (head bytes : List ℕ) (byte from : ℕ) (ended : Bool) → is_cut (head ++ byte ∷ bytes) (length head, byte) ≡ false
    → left_from from head (byte ∷ bytes) ended ≡ left_from from (head ++ byte ∷ []) bytes ended
step_on head bytes byte from ended e =
    ap (λ (cuts : List ℕ). pieces_from from cuts (head ++ byte ∷ bytes) ended) (cut_later (head ++ byte ∷ bytes) bytes (length head) byte e)
    ∙ ap (λ (n : ℕ). pieces_from from (cuts_in (head ++ byte ∷ bytes) n bytes) (head ++ byte ∷ bytes) ended) (sym (length-append head (byte ∷ [])))
    ∙ ap (λ (text : List ℕ). pieces_from from (cuts_in text (length (head ++ byte ∷ [])) bytes) text ended) (sym (append_assoc head (byte ∷ []) bytes))

step_cut : (head bytes : List ℕ) (byte from : ℕ) (ended : Bool) → is_cut (head ++ byte ∷ bytes) (length head, byte) ≡ true
    → left_from from head (byte ∷ bytes) ended ≡ piece_before (drop from head) (left_from (length (head ++ byte ∷ [])) (head ++ byte ∷ []) bytes ended)
step_cut head bytes byte from ended e =
    ap (λ (cuts : List ℕ). pieces_from from cuts (head ++ byte ∷ bytes) ended) (cut_first (head ++ byte ∷ bytes) bytes (length head) byte e)
    ∙ ap (λ (piece : List ℕ). piece_before piece (pieces_from (length head + 1) (cuts_in (head ++ byte ∷ bytes) (length head + 1) bytes) (head ++ byte ∷ bytes) ended)) (piece_is head (byte ∷ bytes) from)
    ∙ ap (λ (n : ℕ). piece_before (drop from head) (pieces_from n (cuts_in (head ++ byte ∷ bytes) n bytes) (head ++ byte ∷ bytes) ended)) (sym (length-append head (byte ∷ [])))
    ∙ ap (λ (text : List ℕ). piece_before (drop from head) (pieces_from (length (head ++ byte ∷ [])) (cuts_in text (length (head ++ byte ∷ [])) bytes) text ended)) (sym (append_assoc head (byte ∷ []) bytes))

-- a piece that is too long already
left_long : (bytes head : List ℕ) (from : ℕ) (ended : Bool) → from ≤ length head → longest_frame < length (drop from head) → left_from from head bytes ended ≡ None ∷ []
left_long [] head from ended h is =
    ap (λ (text : List ℕ). last_piece (drop from text) ended) (append-nil head) ∙ last_long (drop from head) ended is
left_long (byte ∷ bytes) head from ended h is =
    elim (is_cut (head ++ byte ∷ bytes) (length head, byte)) as (λ x. is_cut (head ++ byte ∷ bytes) (length head, byte) ≡ x → left_from from head (byte ∷ bytes) ended ≡ None ∷ []) [
      | true ↦ λ e. step_cut head bytes byte from ended e ∙ ap (λ (x : Bool). if x then None ∷ [] else Some (drop from head) ∷ left_from (length (head ++ byte ∷ [])) (head ++ byte ∷ []) bytes ended) (long (drop from head) is)
      | false ↦ λ e.
          let front : length (drop from (head ++ byte ∷ [])) ≡ length (drop from head) + 1 = omega (arith, length-drop from (head ++ byte ∷ []), length-drop from head, length-append head (byte ∷ [])) in
          step_on head bytes byte from ended e
          ∙ left_long bytes (head ++ byte ∷ []) from ended (omega (arith, length-append head (byte ∷ []))) (omega arith)
    ] refl

-- the pass finds what is left
left_is : (bytes head : List ℕ) (from : ℕ) (quoted ended : Bool) → from ≤ length head → quoted ≡ not (has_even_quotes head) → length (drop from head) ≤ longest_frame
    → left_from from head bytes ended ≡ scanned_after quoted (drop from head) bytes ended
left_is [] head from quoted ended h is room =
    ap (λ (text : List ℕ). last_piece (drop from text) ended) (append-nil head) ∙ last_short (drop from head) ended room
left_is (byte ∷ bytes) head from quoted ended h is room =
    let on = head ++ byte ∷ [] in
    let longer : length on ≡ length head + 1 = omega (arith, length-append head (byte ∷ [])) in
    let front : drop from on ≡ drop from head ++ byte ∷ [] = drop-append-le from head (byte ∷ []) h in
    let mode = mode_next head byte quoted is in
    let is_end = cut_is head bytes byte quoted is in
    elim (ends_piece quoted byte) as (λ x. ends_piece quoted byte ≡ x
    → left_from from head (byte ∷ bytes) ended
    ≡ (if x then Some (drop from head) ∷ scanned_after false [] bytes ended
    else if length (drop from head) == longest_frame then None ∷ []
    else scanned_after (quoted_after quoted byte) (drop from head ++ byte ∷ []) bytes ended)) [
      | true ↦ λ e.
          let none : drop (length on) on ≡ [] = drop-length on in
          let closed : false ≡ not (has_even_quotes on) = sym (closes quoted byte e) ∙ mode in
          let next = left_is bytes on (length on) false ended (omega arith) closed (rw none (omega arith)) ∙ ap (λ (f : List ℕ). scanned_after false f bytes ended) none in
          step_cut head bytes byte from ended (is_end ∙ e)
          ∙ ap (λ (x : Bool). if x then None ∷ [] else Some (drop from head) ∷ left_from (length on) on bytes ended) (short (drop from head) room)
          ∙ ap (λ (more : List (Option (List ℕ))). Some (drop from head) ∷ more) next
      | false ↦ λ e. elim (length (drop from head) == longest_frame) as (λ y. (length (drop from head) == longest_frame) ≡ y
          → left_from from head (byte ∷ bytes) ended ≡ (if y then None ∷ [] else scanned_after (quoted_after quoted byte) (drop from head ++ byte ∷ []) bytes ended)) [
            | true ↦ λ full.
                let most = eqb-true (length (drop from head)) longest_frame full in
                step_on head bytes byte from ended (is_end ∙ e)
                ∙ left_long bytes on from ended (omega arith) (rw (front, length-append) (omega (arith, most)))
            | false ↦ λ less.
                let other = eqb-false (length (drop from head)) longest_frame less in
                step_on head bytes byte from ended (is_end ∙ e)
                ∙ left_is bytes on from (quoted_after quoted byte) ended (omega arith) mode (rw (front, length-append) (omega (arith, other)))
                ∙ ap (λ (f : List ℕ). scanned_after (quoted_after quoted byte) f bytes ended) front
          ] refl
    ] refl

pub pieces_are : (text : List ℕ) (ended : Bool) → pieces text ended ≡ scanned_pieces text ended
unfolding pieces
pieces_are text ended = left_is text [] 0 false ended (omega arith) refl (omega arith)

pub frames_are : (text : List ℕ) (ended : Bool) → frames text ended ≡ frames_of (scanned_pieces text ended)
frames_are text ended = ap frames_of (pieces_are text ended)
