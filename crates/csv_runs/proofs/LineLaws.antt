-- A line of a run, read alone and read with what comes after it.
use Rattle.std.proofs.Common.{◌≡◌, ◌&&◌, ℕ, ◌==◌, Bool, true, false, not, List, [], ◌∷◌, ◌++◌, Option, Some, None, refl, if◌then◌else◌}
use Rattle.std.specs.Bool.{⊤}
use Rattle.csv.specs.Machine.{Read, is_end, next_record, step, field_after, fields_after}
use Rattle.csv.specs.Reading.{default_config}
use Rattle.csv.specs.declared.parser.Action.{Action}
use Rattle.csv.specs.declared.parser.Action.TheVariants as act
use Rattle.csv.specs.declared.parser.State.{State}
use Rattle.csv.specs.declared.parser.State.TheVariants as state
use Rattle.csv_frame.specs.Scanning.{ends_piece}
use Rattle.csv_runs.specs.Records.{only_record}
use Rattle.csv_runs.specs.Runs.{after_open, after_plain, holds_after, is_quoted, mode_after}
use Rattle.csv_runs.specs.RunReading.{from_frame}
use Rattle.csv_runs.specs.declared.runs.Mode.{Mode}
use Rattle.csv_runs.specs.declared.runs.Mode.TheVariants as mode

-- the reader's state in a mode
abbrev pub state_at : Mode → State
state_at mode.FrameStart = state.StartRecord
state_at mode.FieldStart = state.StartField
state_at mode.InField = state.InField
state_at mode.InQuotes = state.InQuoted
state_at mode.AfterQuote = state.AfterQuote
state_at mode.AfterReturn = state.AfterCr

-- what the step to a mode does
abbrev pub StepsTo : Mode → State × Action → Type 0
StepsTo mode.FrameStart s = ⊥
StepsTo mode.FieldStart s = (s.0 ≡ state.StartField) × (is_end s.1 ≡ false)
StepsTo mode.InField s = (s.0 ≡ state.InField) × (is_end s.1 ≡ false)
StepsTo mode.InQuotes s = (s.0 ≡ state.InQuoted) × (is_end s.1 ≡ false)
StepsTo mode.AfterQuote s = (s.0 ≡ state.AfterQuote) × (is_end s.1 ≡ false)
StepsTo mode.AfterReturn s = (s.0 ≡ state.AfterCr) × (s.1 ≡ act.EndRecord)

plain_step : (b : ℕ) → (b == 10) ≡ false → StepsTo (after_plain b) (step default_config state.InField b)
plain_step b other =
    elim (b == 44) as (λ x. (b == 44) ≡ x → StepsTo (after_plain b) (step default_config state.InField b)) [
      | true ↦ λ e. rw e (refl, refl)
      | false ↦ λ e. elim (b == 13) as (λ y. (b == 13) ≡ y → StepsTo (after_plain b) (step default_config state.InField b)) [
        | true ↦ λ r. rw (e, r) (refl, refl)
        | false ↦ λ r. rw (e, r, other) (refl, refl)
      ] refl
    ] refl

quote_step : (b : ℕ) → (b == 10) ≡ false → StepsTo (after_open b) (step default_config state.StartField b)
quote_step b other =
    elim (b == 34) as (λ x. (b == 34) ≡ x → StepsTo (after_open b) (step default_config state.StartField b)) [
      | true ↦ λ e. rw e (refl, refl)
      | false ↦ λ e. rw e (plain_step b other)
    ] refl

double_step : (b : ℕ) → (b == 10) ≡ false → StepsTo (after_open b) (step default_config state.AfterQuote b)
double_step b other =
    elim (b == 34) as (λ x. (b == 34) ≡ x → StepsTo (after_open b) (step default_config state.AfterQuote b)) [
      | true ↦ λ e. rw e (refl, refl)
      | false ↦ λ e. rw e (plain_step b other)
    ] refl

inner_step : (b : ℕ) → StepsTo (if b == 34 then mode.AfterQuote else mode.InQuotes) (step default_config state.InQuoted b)
inner_step b =
    elim (b == 34) as (λ x. (b == 34) ≡ x → StepsTo (if b == 34 then mode.AfterQuote else mode.InQuotes) (step default_config state.InQuoted b)) [
      | true ↦ λ e. rw e (refl, refl)
      | false ↦ λ e. rw e (refl, refl)
    ] refl

-- a byte that doesn't end the record, and one that does
next_on : (s to : State) (b : ℕ) (fields : List (List ℕ)) (field rest : List ℕ) → (step default_config s b).0 ≡ to → is_end (step default_config s b).1 ≡ false
    → next_record default_config s fields field (b ∷ rest)
    ≡ next_record default_config to (fields_after (step default_config s b).1 fields field) (field_after (step default_config s b).1 b field) rest
unfolding next_record
next_on s to b fields field rest e on = rw (on, e) refl

next_end : (s : State) (b : ℕ) (fields : List (List ℕ)) (field rest : List ℕ) → (step default_config s b).0 ≡ state.AfterCr → (step default_config s b).1 ≡ act.EndRecord
    → next_record default_config s fields field (b ∷ rest) ≡ Some (fields ++ field ∷ [], state.AfterCr, rest)
unfolding next_record
next_end s b fields field rest e end = rw (end, e) refl

-- what is left of a line in a mode, without its line feed; its quotes are closed at its end
abbrev pub line_from : Mode → List ℕ → Bool
line_from here [] = not (is_quoted here)
line_from here (b ∷ line) = if ends_piece (is_quoted here) b then false else holds_after (mode_after here b) (λ next. line_from next line)

-- a line gives one record, alone and with more after it, and then the reader reads what comes after
pub record SameRead (alone within : Option Read) (tail : List ℕ) : Type 0 where
  pub fields : List (List ℕ)
  pub to : State
  pub left : List ℕ
  pub alone_is : only_record alone ≡ Some fields
  pub within_is : within ≡ Some (fields, to, left)
  pub from : from_frame to left ≡ tail
  pub goes : next_record default_config to [] [] left ≡ next_record default_config state.StartRecord [] [] tail

at_feed : (fields : List (List ℕ)) (field tail : List ℕ) → SameRead (Some (fields ++ field ∷ [], state.StartRecord, [])) (Some (fields ++ field ∷ [], state.StartRecord, tail)) tail
unfolding next_record
at_feed fields field tail = record { fields = fields ++ field ∷ []; to = state.StartRecord; left = tail; alone_is = refl; within_is = refl; from = refl; goes = refl }

at_return : (fields : List (List ℕ)) (field tail : List ℕ) → SameRead (Some (fields ++ field ∷ [], state.AfterCr, [])) (Some (fields ++ field ∷ [], state.AfterCr, 10 ∷ tail)) tail
unfolding next_record
at_return fields field tail = record { fields = fields ++ field ∷ []; to = state.AfterCr; left = 10 ∷ tail; alone_is = refl; within_is = refl; from = refl; goes = refl }

-- the reader in a mode reads the line alone as it reads it with more after it
abbrev pub ReadsSame : Mode → List ℕ → List ℕ → Type 0
ReadsSame here line tail = (fields : List (List ℕ)) (field : List ℕ)
    → SameRead (next_record default_config (state_at here) fields field line) (next_record default_config (state_at here) fields field (line ++ 10 ∷ tail)) tail

goes_on : (here next : Mode) (b : ℕ) (line tail : List ℕ) → (step default_config (state_at here) b).0 ≡ state_at next → is_end (step default_config (state_at here) b).1 ≡ false
    → ReadsSame next line tail → ReadsSame here (b ∷ line) tail
goes_on here next b line tail e on more fields field =
    rw (next_on (state_at here) (state_at next) b fields field line e on, next_on (state_at here) (state_at next) b fields field (line ++ 10 ∷ tail) e on) (
    more (fields_after (step default_config (state_at here) b).1 fields field) (field_after (step default_config (state_at here) b).1 b field)
    )

pub return_ends : (line : List ℕ) → line_from mode.AfterReturn line ≡ true → line ≡ []
return_ends [] h = refl
return_ends (b ∷ line) h = elim (b == 10) as (λ x. (b == 10) ≡ x → b ∷ line ≡ []) [
  | true ↦ λ e. let no : false ≡ true = rw e at h in cc
  | false ↦ λ e. let no : false ≡ true = rw e at h in cc
] refl

line_ends : (here : Mode) (b : ℕ) (line tail : List ℕ) → (step default_config (state_at here) b).0 ≡ state.AfterCr → (step default_config (state_at here) b).1 ≡ act.EndRecord
    → line_from mode.AfterReturn line ≡ true → ReadsSame here (b ∷ line) tail
line_ends here b line tail e end h fields field =
    rw (return_ends line h, next_end (state_at here) b fields field [] e end, next_end (state_at here) b fields field (10 ∷ tail) e end) (at_return fields field tail)

-- inside a field, or before one that isn't the first
abbrev pub IsInside : Mode → Type 0
IsInside mode.FrameStart = ⊥
IsInside mode.FieldStart = ⊤
IsInside mode.InField = ⊤
IsInside mode.InQuotes = ⊤
IsInside mode.AfterQuote = ⊤
IsInside mode.AfterReturn = ⊥

-- the reader goes on from the next mode as from this one
one_step : (here next : Mode) (b : ℕ) (line tail : List ℕ) → StepsTo next (step default_config (state_at here) b) → line_from next line ≡ true
    → (IsInside next → ReadsSame next line tail) → ReadsSame here (b ∷ line) tail
one_step here mode.FrameStart b line tail s h more = absurd s
one_step here mode.FieldStart b line tail s h more = goes_on here mode.FieldStart b line tail s.0 s.1 (more tt)
one_step here mode.InField b line tail s h more = goes_on here mode.InField b line tail s.0 s.1 (more tt)
one_step here mode.InQuotes b line tail s h more = goes_on here mode.InQuotes b line tail s.0 s.1 (more tt)
one_step here mode.AfterQuote b line tail s h more = goes_on here mode.AfterQuote b line tail s.0 s.1 (more tt)
one_step here mode.AfterReturn b line tail s h more = line_ends here b line tail s.0 s.1 h

-- what a line says of its first byte
pub record FirstByte (here : Mode) (b : ℕ) (line : List ℕ) : Type 0 where
  pub next : Mode
  pub is : mode_after here b ≡ Some next
  pub stays : ends_piece (is_quoted here) b ≡ false
  pub more : line_from next line ≡ true

pub some_mode : (o : Option Mode) (test : Mode → Bool) → holds_after o test ≡ true → (next : Mode) × (o ≡ Some next) × (test next ≡ true)
some_mode None test h = cc
some_mode (Some next) test h = (next, refl, h)

pub first_byte : (here : Mode) (b : ℕ) (line : List ℕ) → line_from here (b ∷ line) ≡ true → FirstByte here b line
first_byte here b line h = elim (ends_piece (is_quoted here) b) as (λ x. ends_piece (is_quoted here) b ≡ x → FirstByte here b line) [
  | true ↦ λ e. let no : false ≡ true = rw e at h in cc
  | false ↦ λ e.
      let found = some_mode (mode_after here b) (λ next. line_from next line) (rw e at h) in
      record { next = found.0; is = found.1; stays = e; more = found.2 }
] refl

pub and_true : (x : Bool) → (x && true) ≡ false → x ≡ false
and_true true h = h
and_true false h = refl

some_is : (a next : Mode) → Some a ≡ Some next → a ≡ next
some_is a next e = cc

field_steps : (b : ℕ) (next : Mode) → (if b == 34 then None else Some (after_plain b)) ≡ Some next → (b == 10) ≡ false → StepsTo next (step default_config state.InField b)
field_steps b next e other = elim (b == 34) as (λ x. (b == 34) ≡ x → StepsTo next (step default_config state.InField b)) [
  | true ↦ λ q. let no : None ≡ Some next = rw q at e in cc
  | false ↦ λ q. let is : after_plain b ≡ next = some_is (after_plain b) next (rw q at e) in rw (← is) (plain_step b other)
] refl

steps_to : (here next : Mode) (b : ℕ) → IsInside here → mode_after here b ≡ Some next → ends_piece (is_quoted here) b ≡ false → StepsTo next (step default_config (state_at here) b)
steps_to mode.FrameStart next b inside e stays = absurd inside
steps_to mode.FieldStart next b inside e stays = rw (← some_is (after_open b) next e) (quote_step b (and_true (b == 10) stays))
steps_to mode.InField next b inside e stays = field_steps b next e (and_true (b == 10) stays)
steps_to mode.InQuotes next b inside e stays = rw (← some_is (if b == 34 then mode.AfterQuote else mode.InQuotes) next e) (inner_step b)
steps_to mode.AfterQuote next b inside e stays = rw (← some_is (after_open b) next e) (double_step b (and_true (b == 10) stays))
steps_to mode.AfterReturn next b inside e stays = absurd inside

line_closed : (here : Mode) (tail : List ℕ) → IsInside here → line_from here [] ≡ true → ReadsSame here [] tail
unfolding next_record
line_closed mode.FrameStart tail inside h fields field = absurd inside
line_closed mode.FieldStart tail inside h fields field = at_feed fields field tail
line_closed mode.InField tail inside h fields field = at_feed fields field tail
line_closed mode.InQuotes tail inside h fields field = cc
line_closed mode.AfterQuote tail inside h fields field = at_feed fields field tail
line_closed mode.AfterReturn tail inside h fields field = absurd inside

pub line_read : (line : List ℕ) (here : Mode) (tail : List ℕ) → IsInside here → line_from here line ≡ true → ReadsSame here line tail
line_read [] here tail inside h = line_closed here tail inside h
line_read (b ∷ line) here tail inside h =
    let first = first_byte here b line h in
    one_step here first.next b line tail (steps_to here first.next b inside first.is first.stays) first.more
    (λ inner. line_read line first.next tail inner first.more)
