-- A run, frame by frame.
use Rattle.std.proofs.Common.{◌≡◌, ◌⊎◌, inl, inr, ℕ, zero, suc, ◌+◌, ◌-◌, ◌<◌, ◌≤◌, ◌==◌, Bool, true, false, not, List, [], ◌∷◌, ◌++◌, length, Option, Some, None, arith, take, drop, get_or, drop-cons, refl, ap, sym, ◌∙◌, append_assoc, append-nil, length-append}
use Rattle.std.proofs.lemmas.Bool.{cases_lt, eqb-true, false≢true}
use Rattle.std.proofs.lemmas.List.{drop-take, take-append-drop, take-take}
use Rattle.csv.specs.Machine.{next_record}
use Rattle.csv.specs.Reading.{default_config, strip_bom}
use Rattle.csv.specs.declared.parser.State.{State}
use Rattle.csv.specs.declared.parser.State.TheVariants as state
use Rattle.csv_frame.specs.Frames.{frames, frames_of, is_blank, longest_frame, without_marks}
use Rattle.csv_frame.specs.Scanning.{ends_piece, quoted_after, scanned_after, scanned_pieces}
use Rattle.csv_frame.proofs.PieceLaws.{frames_are}
use Rattle.csv_runs.specs.Records.{good_record}
use Rattle.csv_runs.specs.Runs.{after_open, is_quoted, is_run, mode_after, run_from}
use Rattle.csv_runs.specs.RunReading.{ReadsAsRun, from_frame}
use Rattle.csv_runs.specs.declared.runs.Mode.{Mode}
use Rattle.csv_runs.specs.declared.runs.Mode.TheVariants as mode
use Rattle.csv_runs.proofs.LineLaws.{and_true, first_byte, line_from, line_read, return_ends, some_mode}
use Rattle.csv_runs.proofs.FrameLaws.{frame_quotes, no_mark, not_blank, toggles, unless, without_no_mark}

-- the frames as one pass over the bytes finds them
abbrev pub scanned_frames : List ℕ → Bool → List (Option (List ℕ))
scanned_frames text ended = frames_of (scanned_pieces text ended)

-- the step of the pass over a byte that ends no frame, and over one that does
pub cut_on : (quoted : Bool) (front : List ℕ) (b : ℕ) (bytes : List ℕ) (ended : Bool) → ends_piece quoted b ≡ false → (length front == longest_frame) ≡ false
    → scanned_after quoted front (b ∷ bytes) ended ≡ scanned_after (quoted_after quoted b) (front ++ b ∷ []) bytes ended
cut_on quoted front b bytes ended stays short = rw (stays, short) refl

pub cut_ends : (quoted : Bool) (front : List ℕ) (b : ℕ) (bytes : List ℕ) (ended : Bool) → ends_piece quoted b ≡ true
    → scanned_after quoted front (b ∷ bytes) ended ≡ Some front ∷ scanned_pieces bytes ended
cut_ends quoted front b bytes ended ends = rw ends refl

-- what a run says of the first byte of what is left of it
pub record RunByte (count : ℕ) (here : Mode) (b : ℕ) (bytes : List ℕ) : Type 0 where
  pub next : Mode
  pub is : mode_after here b ≡ Some next
  pub short : (count == longest_frame) ≡ false
  pub more : run_from (count + 1) next bytes ≡ true

run_byte : (count : ℕ) (here : Mode) (b : ℕ) (bytes : List ℕ) → ends_piece (is_quoted here) b ≡ false → run_from count here (b ∷ bytes) ≡ true → RunByte count here b bytes
run_byte count here b bytes stays h = elim (count == longest_frame) as (λ x. (count == longest_frame) ≡ x → RunByte count here b bytes) [
  | true ↦ λ e. let no : false ≡ true = rw (stays, e) at h in absurd (false≢true no)
  | false ↦ λ e.
      let found = some_mode (mode_after here b) (λ next. run_from (count + 1) next bytes) (rw (stays, e) at h) in
      record { next = found.0; is = found.1; short = e; more = found.2 }
] refl

run_ends : (count : ℕ) (here : Mode) (b : ℕ) (bytes : List ℕ) → ends_piece (is_quoted here) b ≡ true → run_from count here (b ∷ bytes) ≡ true → is_run bytes ≡ true
run_ends count here b bytes ends h = rw ends at h

-- the first line of a run, after those of its bytes that were passed
pub record FirstLine (here : Mode) (front bytes : List ℕ) : Type 0 where
  pub line : List ℕ
  pub rest : List ℕ
  pub is : bytes ≡ line ++ 10 ∷ rest
  pub line_is : line_from here line ≡ true
  pub rest_is : is_run rest ≡ true
  pub cut : (more : List ℕ) (ended : Bool) → scanned_after (is_quoted here) front (bytes ++ more) ended ≡ Some (front ++ line) ∷ scanned_pieces (rest ++ more) ended

line_at_feed : (b : ℕ) (quoted : Bool) → ends_piece quoted b ≡ true → (b ≡ 10) × (not quoted ≡ true)
line_at_feed b quoted e = elim (b == 10) as (λ x. (b == 10) ≡ x → (b ≡ 10) × (not quoted ≡ true)) [
  | true ↦ λ h. (eqb-true b 10 h, rw h at e)
  | false ↦ λ h. absurd (false≢true (rw h at e))
] refl

here_ends : (here : Mode) (front : List ℕ) (b : ℕ) (bytes : List ℕ) → ends_piece (is_quoted here) b ≡ true → run_from (length front) here (b ∷ bytes) ≡ true → FirstLine here front (b ∷ bytes)
here_ends here front b bytes ends h =
    let feed = line_at_feed b (is_quoted here) ends in
    record {
      line = [];
      rest = bytes;
      is = ap (λ (c : ℕ). c ∷ bytes) feed.0;
      line_is = feed.1;
      rest_is = run_ends (length front) here b bytes ends h;
      cut = λ more ended. rw append-nil (cut_ends (is_quoted here) front b (bytes ++ more) ended ends);
    }

front_longer : (front : List ℕ) (b : ℕ) → length (front ++ b ∷ []) ≡ length front + 1
front_longer front b = omega (arith, length-append front (b ∷ []))

-- a byte of the line, and the line after it
line_longer : (here : Mode) (front : List ℕ) (b : ℕ) (bytes : List ℕ) → ends_piece (is_quoted here) b ≡ false → (found : RunByte (length front) here b bytes)
    → FirstLine found.next (front ++ b ∷ []) bytes → FirstLine here front (b ∷ bytes)
line_longer here front b bytes stays found more = record {
  line = b ∷ more.line;
  rest = more.rest;
  is = ap (λ (xs : List ℕ). b ∷ xs) more.is;
  line_is = rw (stays, found.is) more.line_is;
  rest_is = more.rest_is;
  cut = λ after ended.
      let first = cut_on (is_quoted here) front b (bytes ++ after) ended stays found.short in
      let turned = ap (λ (q : Bool). scanned_after q (front ++ b ∷ []) (bytes ++ after) ended) (toggles here found.next b found.is) in
      first ∙ sym turned ∙ more.cut after ended ∙ ap (λ (xs : List ℕ). Some xs ∷ scanned_pieces (more.rest ++ after) ended) (append_assoc front (b ∷ []) more.line);
}

first_line : (bytes front : List ℕ) (b : ℕ) (here : Mode) → run_from (length front) here (b ∷ bytes) ≡ true → FirstLine here front (b ∷ bytes)
first_line [] front b here h = elim (ends_piece (is_quoted here) b) as (λ x. ends_piece (is_quoted here) b ≡ x → FirstLine here front (b ∷ [])) [
  | true ↦ λ e. here_ends here front b [] e h
  | false ↦ λ e. let found = run_byte (length front) here b [] e h in absurd (let no : length front + 1 ≡ 0 = eqb-true (length front + 1) 0 found.more in omega arith)
] refl
first_line (c ∷ bytes) front b here h = elim (ends_piece (is_quoted here) b) as (λ x. ends_piece (is_quoted here) b ≡ x → FirstLine here front (b ∷ c ∷ bytes)) [
  | true ↦ λ e. here_ends here front b (c ∷ bytes) e h
  | false ↦ λ e.
      let found = run_byte (length front) here b (c ∷ bytes) e h in
      let longer : run_from (length (front ++ b ∷ [])) found.next (c ∷ bytes) ≡ true = rw (front_longer front b) found.more in
      line_longer here front b (c ∷ bytes) e found (first_line bytes (front ++ b ∷ []) c found.next longer)
] refl

-- a line that is skipped, and one that is a frame
pub record BlankLine (line rest : List ℕ) : Type 0 where
  pub skips : is_blank (without_marks line) ≡ true
  pub reads : next_record default_config state.StartRecord [] [] (line ++ 10 ∷ rest) ≡ next_record default_config state.StartRecord [] [] rest

pub record FullLine (line rest : List ℕ) : Type 0 where
  pub bare : without_marks line ≡ line
  pub keeps : is_blank line ≡ false
  pub fields : List (List ℕ)
  pub to : State
  pub left : List ℕ
  pub good : good_record line ≡ Some fields
  pub reads : next_record default_config state.StartRecord [] [] (line ++ 10 ∷ rest) ≡ Some (fields, to, left)
  pub from : from_frame to left ≡ rest
  pub goes : next_record default_config to [] [] left ≡ next_record default_config state.StartRecord [] [] rest

-- a record that begins with neither CR nor LF begins with its first field
begins : (b : ℕ) (bytes : List ℕ) → (b == 13) ≡ false → (b == 10) ≡ false
    → next_record default_config state.StartRecord [] [] (b ∷ bytes) ≡ next_record default_config state.StartField [] [] (b ∷ bytes)
unfolding next_record
begins b bytes cr lf = rw (cr, lf) refl

return_line : (line rest : List ℕ) → line ≡ [] → BlankLine (13 ∷ line) rest
unfolding next_record
return_line line rest e = rw e (record { skips = refl; reads = refl })

full_line : (b : ℕ) (line rest : List ℕ) → (b == 239) ≡ false → (b == 13) ≡ false → (b == 10) ≡ false → line_from mode.FrameStart (b ∷ line) ≡ true → line_from mode.FieldStart (b ∷ line) ≡ true
    → FullLine (b ∷ line) rest
full_line b line rest mark cr lf h inside =
    let same = line_read (b ∷ line) mode.FieldStart rest tt inside [] [] in
    record {
      bare = without_no_mark b line mark;
      keeps = not_blank b line cr;
      fields = same.fields;
      to = same.to;
      left = same.left;
      good = rw (frame_quotes (b ∷ line) h, no_mark b line mark, begins b line cr lf) same.alone_is;
      reads = begins b (line ++ 10 ∷ rest) cr lf ∙ same.within_is;
      from = same.from;
      goes = same.goes;
    }

line_case : (line rest : List ℕ) → line_from mode.FrameStart line ≡ true → BlankLine line rest ⊎ FullLine line rest
unfolding next_record
line_case [] rest h = inl (record { skips = refl; reads = refl })
line_case (b ∷ line) rest h =
    let first = first_byte mode.FrameStart b line h in
    let start = unless (b == 239) (after_open b) first.next first.is in
    let more : line_from (after_open b) line ≡ true = rw start.1 first.more in
    let lf = and_true (b == 10) first.stays in
    elim (b == 13) as (λ x. (b == 13) ≡ x → BlankLine (b ∷ line) rest ⊎ FullLine (b ∷ line) rest) [
      | true ↦ λ e.
          let is : b ≡ 13 = eqb-true b 13 e in
          inl (rw is (return_line line rest (return_ends line (rw is at more))))
      | false ↦ λ e. inr (full_line b line rest start.0 e lf h (rw lf more))
    ] refl

-- the first frame of a run, whose record the reader reads next, and after it a run again; or there is none
pub record NextFrame (run : List ℕ) : Type 0 where
  pub frame : List ℕ
  pub fields : List (List ℕ)
  pub to : State
  pub left : List ℕ
  pub splits : scanned_frames run true ≡ Some frame ∷ scanned_frames (from_frame to left) true
  pub good : good_record frame ≡ Some fields
  pub reads : next_record default_config state.StartRecord [] [] run ≡ Some (fields, to, left)
  pub at : ReadsAsRun to left

pub record NoFrame (run : List ℕ) : Type 0 where
  pub none : scanned_frames run true ≡ []
  pub ends : next_record default_config state.StartRecord [] [] run ≡ None

full_next : (line rest run : List ℕ) → run ≡ line ++ 10 ∷ rest → is_run rest ≡ true → scanned_pieces run true ≡ Some line ∷ scanned_pieces rest true → FullLine line rest → NextFrame run
full_next line rest run is rest_is cut full = record {
  frame = line;
  fields = full.fields;
  to = full.to;
  left = full.left;
  splits = rw (cut, full.bare, full.keeps, full.from) refl;
  good = full.good;
  reads = rw is full.reads;
  at = record { run = rw full.from rest_is; same = rw full.from full.goes };
}

blank_next : (line rest run : List ℕ) → run ≡ line ++ 10 ∷ rest → scanned_pieces run true ≡ Some line ∷ scanned_pieces rest true → BlankLine line rest → NextFrame rest ⊎ NoFrame rest → NextFrame run ⊎ NoFrame run
blank_next line rest run is cut blank (inl next) =
    let same : scanned_frames run true ≡ scanned_frames rest true = rw (cut, blank.skips) refl in
    inl (record {
      frame = next.frame;
      fields = next.fields;
      to = next.to;
      left = next.left;
      splits = same ∙ next.splits;
      good = next.good;
      reads = rw is (blank.reads ∙ next.reads);
      at = next.at;
    })
blank_next line rest run is cut blank (inr last) =
    let same : scanned_frames run true ≡ scanned_frames rest true = rw (cut, blank.skips) refl in
    inr (record { none = same ∙ last.none; ends = rw is (blank.reads ∙ last.ends) })

-- the first cut of a run
cut_first : (b : ℕ) (bytes : List ℕ) (first : FirstLine mode.FrameStart [] (b ∷ bytes)) → scanned_pieces (b ∷ bytes) true ≡ Some first.line ∷ scanned_pieces first.rest true
cut_first b bytes first =
    ap (λ (xs : List ℕ). scanned_pieces xs true) (sym (append-nil (b ∷ bytes))) ∙ first.cut [] true ∙ ap (λ (xs : List ℕ). Some first.line ∷ scanned_pieces xs true) (append-nil first.rest)

next_within : (n : ℕ) (run : List ℕ) → length run ≤ n → is_run run ≡ true → NextFrame run ⊎ NoFrame run
unfolding next_record
next_within n [] h is = inr (record { none = refl; ends = refl })
next_within zero (b ∷ bytes) h is = absurd (omega arith)
next_within (suc n) (b ∷ bytes) h is =
    let first = first_line bytes [] b mode.FrameStart is in
    let cut = cut_first b bytes first in
    let shorter : length first.rest ≤ n = omega (arith, ap length first.is, length-append first.line (10 ∷ first.rest)) in
    elim (line_case first.line first.rest first.line_is) [
      | inl blank ↦ blank_next first.line first.rest (b ∷ bytes) first.is cut blank (next_within n first.rest shorter first.rest_is)
      | inr full ↦ inl (full_next first.line first.rest (b ∷ bytes) first.is first.rest_is cut full)
    ]

-- the reader reads the record of the first frame of a run, or finds none
pub next_of : (run : List ℕ) → is_run run ≡ true → NextFrame run ⊎ NoFrame run
next_of run is = next_within (length run) run (omega arith) is

-- what a run's frames are, whatever comes after it
pub record StandsApart (run more : List ℕ) (ended : Bool) : Type 0 where
  pub of_cuts : scanned_pieces (run ++ more) ended ≡ scanned_pieces run true ++ scanned_pieces more ended
  pub of_frames : scanned_frames (run ++ more) ended ≡ scanned_frames run true ++ scanned_frames more ended

kept_apart : (line : List ℕ) (whole : List (Option (List ℕ))) (front back : List (Option (List ℕ))) → frames_of whole ≡ frames_of front ++ back → frames_of (Some line ∷ whole) ≡ frames_of (Some line ∷ front) ++ back
kept_apart line whole front back e = elim (is_blank (without_marks line)) as (λ x. is_blank (without_marks line) ≡ x → frames_of (Some line ∷ whole) ≡ frames_of (Some line ∷ front) ++ back) [
  | true ↦ λ blank. rw blank e
  | false ↦ λ full. rw full (ap (λ fs. Some (without_marks line) ∷ fs) e)
] refl

line_apart : (line rest run more : List ℕ) (ended : Bool) → scanned_pieces (run ++ more) ended ≡ Some line ∷ scanned_pieces (rest ++ more) ended → scanned_pieces run true ≡ Some line ∷ scanned_pieces rest true → StandsApart rest more ended → StandsApart run more ended
line_apart line rest run more ended whole cut after = record {
  of_cuts = rw (whole, cut) (ap (λ fs. Some line ∷ fs) after.of_cuts);
  of_frames = rw (whole, cut) (kept_apart line (scanned_pieces (rest ++ more) ended) (scanned_pieces rest true) (scanned_frames more ended) after.of_frames);
}

apart_within : (n : ℕ) (run more : List ℕ) (ended : Bool) → length run ≤ n → is_run run ≡ true → StandsApart run more ended
apart_within n [] more ended h is = record { of_cuts = refl; of_frames = refl }
apart_within zero (b ∷ bytes) more ended h is = absurd (omega arith)
apart_within (suc n) (b ∷ bytes) more ended h is =
    let first = first_line bytes [] b mode.FrameStart is in
    let shorter : length first.rest ≤ n = omega (arith, ap length first.is, length-append first.line (10 ∷ first.rest)) in
    line_apart first.line first.rest (b ∷ bytes) more ended (first.cut more ended) (cut_first b bytes first) (apart_within n first.rest more ended shorter first.rest_is)

pub run_apart : (run more : List ℕ) (ended : Bool) → is_run run ≡ true → StandsApart run more ended
run_apart run more ended is = apart_within (length run) run more ended (omega arith) is

-- a text that begins with a run
scanned_splits : (n : ℕ) (text more : List ℕ) (ended : Bool) → is_run (take n text) ≡ true
    → scanned_frames (text ++ more) ended ≡ scanned_frames (take n text) true ++ scanned_frames (drop n text ++ more) ended
scanned_splits n text more ended is =
    ap (λ (xs : List ℕ). scanned_frames xs ended) (ap (λ (xs : List ℕ). xs ++ more) (sym (take-append-drop n text)) ∙ append_assoc (take n text) (drop n text) more)
    ∙ (run_apart (take n text) (drop n text ++ more) ended is).of_frames

pub run_splits : (n : ℕ) (text more : List ℕ) (ended : Bool) → is_run (take n text) ≡ true
    → frames (text ++ more) ended ≡ frames (take n text) true ++ frames (drop n text ++ more) ended
run_splits n text more ended is =
    frames_are (text ++ more) ended ∙ scanned_splits n text more ended is
    ∙ ap (λ (fs : List (Option (List ℕ))). fs ++ scanned_frames (drop n text ++ more) ended) (sym (frames_are (take n text) true))
    ∙ ap (λ (fs : List (Option (List ℕ))). frames (take n text) true ++ fs) (sym (frames_are (drop n text ++ more) ended))

longer_take : (at k : ℕ) (bytes : List ℕ) → at < length bytes → take (at + suc k) bytes ≡ take at bytes ++ get_or bytes at 0 ∷ take k (drop (suc at) bytes)
longer_take at k bytes inside =
    let within : at ≤ at + suc k = omega arith in
    sym (take-append-drop at (take (at + suc k) bytes))
    ∙ rw (take-take at (at + suc k) bytes within, drop-take at (suc k) bytes, drop-cons bytes at 0 inside) refl

-- no longer bytes are a run where the next byte can't go on with it
pub run_stops : (at end n count : ℕ) (here : Mode) (bytes : List ℕ) → at < length bytes
    → ((more : List ℕ) → is_run (take at bytes ++ more) ≡ run_from count here more) → ((more : List ℕ) → run_from count here (get_or bytes at 0 ∷ more) ≡ false)
    → ((m : ℕ) → m ≤ at → is_run (take m bytes) ≡ true → m ≤ end)
    → is_run (take n bytes) ≡ true → n ≤ end
run_stops at end n count here bytes inside goes stops longest run =
    elim (cases_lt at n) [
      | inl beyond ↦
          let k = n - at - 1 in
          let rest = take k (drop (suc at) bytes) in
          let whole : n ≡ at + suc k = omega arith in
          let dead : is_run (take (at + suc k) bytes) ≡ false =
          ap (λ (xs : List ℕ). is_run xs) (longer_take at k bytes inside) ∙ goes (get_or bytes at 0 ∷ rest) ∙ stops rest in
          absurd (false≢true (sym dead ∙ ap (λ (m : ℕ). is_run (take m bytes)) (sym whole) ∙ run))
      | inr within ↦ longest n within run
    ]

pub stops_long : (count b : ℕ) (here : Mode) (more : List ℕ) → ends_piece (is_quoted here) b ≡ false → count ≡ longest_frame → run_from count here (b ∷ more) ≡ false
stops_long count b here more stays long = rw (stays, long) refl

pub stops_nowhere : (count b : ℕ) (here : Mode) (more : List ℕ) → ends_piece (is_quoted here) b ≡ false → mode_after here b ≡ None → run_from count here (b ∷ more) ≡ false
stops_nowhere count b here more stays none = elim (count == longest_frame) as (λ x. (count == longest_frame) ≡ x → run_from count here (b ∷ more) ≡ false) [
  | true ↦ λ e. rw (stays, e) refl
  | false ↦ λ e. rw (stays, e, none) refl
] refl

-- no mark stands at a run's start
pub run_unmarked : (run : List ℕ) → is_run run ≡ true → strip_bom run ≡ run
unfolding strip_bom
run_unmarked [] h = refl
run_unmarked (b ∷ bytes) h = elim (ends_piece false b) as (λ x. ends_piece false b ≡ x → strip_bom (b ∷ bytes) ≡ b ∷ bytes) [
  | true ↦ λ e. let is : b ≡ 10 = (line_at_feed b false e).0 in no_mark b bytes (rw is refl)
  | false ↦ λ e.
      let found = run_byte 0 mode.FrameStart b bytes e h in
      no_mark b bytes (unless (b == 239) (after_open b) found.next found.is).0
] refl
