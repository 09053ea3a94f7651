-- A frame of a run: its quotes are even, and no mark stands at its start.
use Rattle.std.proofs.Common.{◌≡◌, ℕ, ◌+◌, ◌==◌, ◌%◌, Bool, true, false, not, List, [], ◌∷◌, Some, None, count_by, arith, refl, ap, ◌∙◌, if◌then◌else◌}
use Rattle.std.proofs.lemmas.List.Sums.{sum_by-cons}
use Rattle.csv.specs.Reading.{strip_bom}
use Rattle.csv_frame.specs.Frames.{has_even_quotes, is_blank, without_marks}
use Rattle.csv_runs.specs.Runs.{after_open, after_plain, is_quoted, mode_after}
use Rattle.csv_runs.specs.declared.runs.Mode.{Mode}
use Rattle.csv_runs.specs.declared.runs.Mode.TheVariants as mode
use Rattle.csv_runs.proofs.LineLaws.{first_byte, line_from}

-- 1 where quotes are open
abbrev pub parity : Bool → ℕ
parity quoted = if quoted then 1 else 0

abbrev pub quote_count : List ℕ → ℕ
quote_count bytes = count_by (λ byte. byte == 34) bytes

plain_unquoted : (b : ℕ) → is_quoted (after_plain b) ≡ false
plain_unquoted b = elim (b == 44) as (λ x. (b == 44) ≡ x → is_quoted (after_plain b) ≡ false) [
  | true ↦ λ e. rw e refl
  | false ↦ λ e. elim (b == 13) as (λ y. (b == 13) ≡ y → is_quoted (after_plain b) ≡ false) [
    | true ↦ λ r. rw (e, r) refl
    | false ↦ λ r. rw (e, r) refl
  ] refl
] refl

-- a byte toggles the quotes just where it is one
abbrev pub toggled : Bool → Bool → Bool
toggled is_quote quoted = if is_quote then not quoted else quoted

open_toggles : (b : ℕ) → is_quoted (after_open b) ≡ toggled (b == 34) false
open_toggles b = elim (b == 34) as (λ x. (b == 34) ≡ x → is_quoted (after_open b) ≡ toggled (b == 34) false) [
  | true ↦ λ e. rw e refl
  | false ↦ λ e. rw e (plain_unquoted b)
] refl

some_is : (a next : Mode) → Some a ≡ Some next → a ≡ next
some_is a next e = cc

pub unless : (x : Bool) (a next : Mode) → (if x then None else Some a) ≡ Some next → (x ≡ false) × (a ≡ next)
unless true a next e = absurd (let no : None ≡ Some next = e in cc)
unless false a next e = (refl, some_is a next e)

inner_toggles : (x : Bool) → is_quoted (if x then mode.AfterQuote else mode.InQuotes) ≡ toggled x true
inner_toggles true = refl
inner_toggles false = refl

pub toggles : (here next : Mode) (b : ℕ) → mode_after here b ≡ Some next → is_quoted next ≡ toggled (b == 34) (is_quoted here)
toggles mode.FrameStart next b e = rw (← (unless (b == 239) (after_open b) next e).1) (open_toggles b)
toggles mode.FieldStart next b e = rw (← some_is (after_open b) next e) (open_toggles b)
toggles mode.InField next b e =
    let both = unless (b == 34) (after_plain b) next e in
    rw (both.0, ← both.1) (plain_unquoted b)
toggles mode.InQuotes next b e = rw (← some_is (if b == 34 then mode.AfterQuote else mode.InQuotes) next e) (inner_toggles (b == 34))
toggles mode.AfterQuote next b e = rw (← some_is (after_open b) next e) (open_toggles b)
toggles mode.AfterReturn next b e = absurd (let no : None ≡ Some next = e in cc)

count_step : (b : ℕ) (line : List ℕ) (x : Bool) → (b == 34) ≡ x → quote_count (b ∷ line) ≡ (if x then quote_count line + 1 else quote_count line)
count_step b line true e = sum_by-cons (λ (byte : ℕ). if byte == 34 then 1 else 0) b line ∙ rw e (omega arith)
count_step b line false e = sum_by-cons (λ (byte : ℕ). if byte == 34 then 1 else 0) b line ∙ rw e (omega arith)

parity_step : (n : ℕ) (x quoted : Bool) → n % 2 ≡ parity (toggled x quoted) → (if x then n + 1 else n) % 2 ≡ parity quoted
parity_step n true true h = omega arith
parity_step n true false h = omega arith
parity_step n false true h = h
parity_step n false false h = h

closed : (here : Mode) → line_from here [] ≡ true → is_quoted here ≡ false
closed mode.FrameStart h = refl
closed mode.FieldStart h = refl
closed mode.InField h = refl
closed mode.InQuotes h = cc
closed mode.AfterQuote h = refl
closed mode.AfterReturn h = refl

-- quotes that are open are closed by an odd number of quotes
pub line_quotes : (line : List ℕ) (here : Mode) → line_from here line ≡ true → quote_count line % 2 ≡ parity (is_quoted here)
line_quotes [] here h = rw (closed here h) refl
line_quotes (b ∷ line) here h =
    let first = first_byte here b line h in
    let more = line_quotes line first.next first.more in
    rw (count_step b line (b == 34) refl)
    (parity_step (quote_count line) (b == 34) (is_quoted here) (more ∙ ap parity (toggles here first.next b first.is)))

-- so the quotes of a whole line are even
pub frame_quotes : (line : List ℕ) → line_from mode.FrameStart line ≡ true → has_even_quotes line ≡ true
frame_quotes line h = rw (line_quotes line mode.FrameStart h) refl

-- a first byte that begins no mark
pub no_mark : (b : ℕ) (line : List ℕ) → (b == 239) ≡ false → strip_bom (b ∷ line) ≡ b ∷ line
unfolding strip_bom
no_mark b [] e = refl
no_mark b (c ∷ []) e = refl
no_mark b (c ∷ d ∷ line) e = rw e refl

pub without_no_mark : (b : ℕ) (line : List ℕ) → (b == 239) ≡ false → without_marks (b ∷ line) ≡ b ∷ line
without_no_mark b [] e = refl
without_no_mark b (c ∷ []) e = refl
without_no_mark b (c ∷ d ∷ line) e = rw e refl

pub not_blank : (b : ℕ) (line : List ℕ) → (b == 13) ≡ false → is_blank (b ∷ line) ≡ false
not_blank b [] e = e
not_blank b (c ∷ line) e = refl
