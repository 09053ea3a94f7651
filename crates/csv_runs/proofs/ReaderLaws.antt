-- A reader over a run, before and after it reads a record.
use Rattle.std.proofs.Common.{◌≡◌, inl, inr, ℕ, Bool, true, false, List, [], ◌∷◌, Option, Some, None, MatchOption, Result, Ok, Err, MatchResult, IfOk, Bor, refl, sym, ap, ◌∙◌, if◌then◌else◌}
use Rattle.std.proofs.lemmas.Bool.{false≢true, true≢false}
use Rattle.std.specs.Result.{is_ok}
use Rattle.csv.specs.Reading.{NextIs, ReadRecord, ReadsNext, Ready, default_config, is_flexible, pending_of, reader_config, reader_state, reader_trim, took_first}
use Rattle.csv.specs.declared.parser.State.{State}
use Rattle.csv.specs.declared.parser.State.TheVariants as state
use Rattle.csv.specs.declared.reader.Trim.TheVariants as trim
use Rattle.csv_frame.specs.Frames.{frames}
use Rattle.csv_frame.proofs.PieceLaws.{frames_are}
use Rattle.csv_runs.specs.Runs.{is_run}
use Rattle.csv_runs.specs.RunReading.{ReadsAsRun, ByteReader, GivesNext, IsSetUp, ReadsRun, from_frame, frames_from, unread_bytes, unread_frames}
use Rattle.csv_runs.proofs.RunLaws.{NextFrame, NoFrame, next_of}

-- a reader that is made over a run
pub starts_run : (reader : ByteReader) (run : List ℕ) → unread_bytes reader ≡ Some run → is_run run ≡ true
    → reader_config reader ≡ default_config → reader_trim reader ≡ trim.None → Ready reader → is_flexible reader ≡ true → reader_state reader ≡ state.StartRecord
    → ReadsRun reader
starts_run reader run e is config trimmed ready flexible start =
    rw e (record { config = config; trim = trimmed; ready = ready; flexible = flexible; at = rw start (record { run = is; same = refl }) })

pub starts_frames : (reader : ByteReader) (run : List ℕ) → unread_bytes reader ≡ Some run → reader_state reader ≡ state.StartRecord → unread_frames true reader ≡ frames run true
starts_frames reader run e start = rw (e, start) refl

-- the bytes are known where the reader stands in a run
pub known : (o : Option (List ℕ)) (Is : List ℕ → Type 0) → MatchOption o ⊥ Is → (bytes : List ℕ) × (o ≡ Some bytes) × Is bytes
known None Is h = absurd h
known (Some bytes) Is h = (bytes, refl, h)

-- a reader past the start of its text has left what is pending
pub pending_left : (reader : ByteReader) → reader.bom_checked ≡ true → unread_bytes reader ≡ pending_of (Some reader.rdr.now) reader
pending_left reader checked = rw checked refl

-- what a read of one record tells, where the bytes before it are known and those after it may be
pub record TellsOfRead (reached to : State) (bytes : List ℕ) (left : Option (List ℕ)) (found : Bool) (fields : List (List ℕ)) : Type 0 where
  pub at : found ≡ true → (rest : List ℕ) × (left ≡ Some rest) × ReadsAsRun to rest
  pub gives : GivesNext found (frames_from reached (Some bytes)) (if found then frames_from to left else []) fields

step_found : (reached to : State) (bytes rest : List ℕ) (found : Bool) (fields : List (List ℕ)) → (next : NextFrame (from_frame reached bytes))
    → NextIs (Some (next.fields, next.to, next.left)) found fields to rest → TellsOfRead reached to bytes (Some rest) found fields
step_found reached to bytes rest found fields next is = rw (is.0, is.1, is.2, is.3) (record {
  at = λ yes. (next.left, refl, next.at);
  gives = (
    next.frame,
    frames_are (from_frame reached bytes) true ∙ next.splits ∙ ap (λ (fs : List (Option (List ℕ))). Some next.frame ∷ fs) (sym (frames_are (from_frame next.to next.left) true)),
    next.good,
  );
})

step_none : (reached to : State) (bytes rest : List ℕ) (found : Bool) (fields : List (List ℕ)) → NoFrame (from_frame reached bytes)
    → found ≡ false → TellsOfRead reached to bytes (Some rest) found fields
step_none reached to bytes rest found fields last is = rw is (record {
  at = λ yes. absurd (false≢true yes);
  gives = (frames_are (from_frame reached bytes) true ∙ last.none, refl);
})

one_read : (reached to : State) (bytes : List ℕ) (left : Option (List ℕ)) (found : Bool) (fields : List (List ℕ)) → ReadsAsRun reached bytes
    → ReadsNext default_config reached (Some bytes) left found fields to → TellsOfRead reached to bytes left found fields
one_read reached to bytes None found fields at h = absurd h
one_read reached to bytes (Some rest) found fields at h =
    elim (next_of (from_frame reached bytes) at.run) [
      | inl next ↦ step_found reached to bytes rest found fields next (rw (at.same, next.reads) at h)
      | inr last ↦ step_none reached to bytes rest found fields last (rw (at.same, last.ends) at h)
    ]

-- a read in a run gives the next frame's record, and leaves a run
pub record ReadsNextFrame (old new : ByteReader) (found : Bool) (fields : List (List ℕ)) : Type 0 where
  pub goes_on : found ≡ true → ReadsRun new
  pub gives : GivesNext found (unread_frames true old) (unread_frames found new) fields

pub reads_next : (old new : ByteReader) (found : Bool) (fields : List (List ℕ)) → ReadsRun old
    → (reader_trim old ≡ trim.None → Ready old → ReadRecord (λ (bytes : Bor (List ℕ)). Some bytes.now) old new found fields)
    → (reader_trim old ≡ trim.None → took_first new ≡ true) → is_flexible new ≡ is_flexible old → ReadsNextFrame old new found fields
reads_next old new found fields run reads ready flexible =
    let before = known (unread_bytes old) (IsSetUp old) run in
    let set = before.2 in
    let read = reads set.trim set.ready in
    let steps = one_read (reader_state old) (reader_state new) before.0 (pending_of (Some new.rdr.now) new) found fields set.at (rw (set.config, before.1) at read.0) in
    let left = pending_left new read.1 in
    record {
      goes_on = λ yes.
          let after = steps.at yes in
          rw (left, after.1) (record {
            config = read.2 ∙ set.config;
            trim = read.3 ∙ set.trim;
            ready = inl (ready set.trim);
            flexible = flexible ∙ set.flexible;
            at = after.2;
          });
      gives = rw (before.1, left) steps.gives;
    }

-- where a call's error is changed, what holds of each of its values holds of the result's
pub told_on : {A E F : Type 0} (r : Result A E) (m : Result A F) (Fails : E → Type 0) (P : A → Type 0)
    → is_ok m ≡ is_ok r → MatchResult r (λ y. m ≡ Ok y) Fails → ((x : A) → r ≡ Ok x → P x) → IfOk m P
told_on (Ok y) m Fails P ok same told = rw same (told y refl)
told_on (Err e) (Ok x) Fails P ok same told = absurd (true≢false ok)
told_on (Err e) (Err f) Fails P ok same told = tt
