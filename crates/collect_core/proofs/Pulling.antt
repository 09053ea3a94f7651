-- The steps of a reader.
use Rattle.std.proofs.Common.{◌≡◌, ◌≢◌, ℕ, ◌+◌, ◌<◌, ◌≤◌, ◌⊎◌, inl, inr, Bool, true, false, List, [], ◌∷◌, ◌++◌, length, Option, Some, None, IfSome, refl, sym, ap, subst, ◌∙◌, arith, append-nil}
use Rattle.std.specs.Prelude.{option_to_list}
use Rattle.answer_theory.proofs.Lists.{each_append}
use Rattle.med_base.specs.declared.member.MemberFault.{MemberFault}
use Rattle.med_base.specs.declared.member.MemberState.{MemberState}
use Rattle.med_base.specs.declared.member.MemberState.TheVariants as state
use Rattle.med_base.specs.declared.outside.source.Source.{Ghosts as Source}
use Rattle.tuple_core.specs.declared.columns.Column.{Column}
use Rattle.tuple_core.specs.Values.{RowList, RowValues}
use Rattle.csv_wrap.specs.Ahead.{FillColumns, HoldsNothing}
use Rattle.csv_wrap.specs.Pulls.{AnswersOnePull, AsksSource, CountsWaits, LeavesSource, MovesBy}
use Rattle.csv_wrap.specs.Sound.{IsSoundSoFar, IsSoundState}
use Rattle.csv_wrap.specs.Wrapped.{AcceptedAs, HasGiven, IsLast, IsPulled, SameSource, SoundAs, Wrapped, fault_of, row_of}
use Rattle.csv_wrap.specs.Wrapped.{HasMoved as HasMovedBytes}
use Rattle.csv_wrap.specs.declared.wrapper.NextRow.{NextRow}
use Rattle.csv_wrap.specs.declared.wrapper.NextRow.TheVariants as next
use Rattle.csv_wrap.specs.declared.wrapper.Pulled.{Pulled}
use Rattle.csv_wrap.specs.declared.wrapper.Pulled.TheVariants as pulled
use Rattle.collect_core.specs.Reading.{HasBegun, IsReader, Reader, ReaderAccepted, end_to_come, most_rows, reader_left, some_kept}
use Rattle.collect_core.specs.Selecting.{Select, selected_row}
use Rattle.collect_core.specs.Steps.{Accepts, AcceptsNothing, Falls, FindsNothing, Pulls, PullsOnceAtMost, ReadsHeld, ReadsOn, StandsStill, fault_after, state_after, waited_after}
use Rattle.collect_core.specs.Turning.{PulledBy, PullsAs, TakesNext, collected_by}
use Rattle.collect_core.specs.declared.reader.Collected.{Collected}
use Rattle.collect_core.specs.declared.reader.Collected.TheVariants as collected
use Rattle.collect_core.proofs.Lefts.{left_active, left_over, less_by_row, moved_less, reading_left, still_no_more}
use Rattle.collect_core.proofs.Taking.{no_fault, reader_accepted, reads_all}

-- what is left where what is held was accepted, and what that was
pub record Took {S M : Type 0} (source : Source S M) (select : Select) (old new : Reader S) (result : Collected) : Type 0 where
  pub reader : IsReader source new
  pub reads : ReadsHeld source select old new result
  pub columns : new.wrapper.ahead.columns ≡ old.wrapper.ahead.columns
  pub same : new.wrapper.source ≡ old.wrapper.source
  pub falls : Falls result (reader_left source old) (reader_left source new)

-- what a step leaves, and what it was
pub record Went {S M : Type 0} (source : Source S M) (select : Select) (old new : Reader S) (result : Collected) : Type 0 where
  pub reader : IsReader source new
  pub reads : ReadsOn source select old new result
  pub columns : new.wrapper.ahead.columns ≡ old.wrapper.ahead.columns
  pub same : SameSource source old.wrapper.source new.wrapper.source
  pub falls : Falls result (reader_left source old) (reader_left source new)

stays_told : (told : Option (List ℕ)) → IfSome told (λ text. told ≡ Some text)
stays_told None = tt
stays_told (Some text) = refl

pub same_source : {S M : Type 0} (source : Source S M) (old new : S) → new ≡ old → SameSource source old new
same_source source old new e = subst (λ s. SameSource source old s) (sym e) (record {
  location = refl;
  mark = refl;
  whole = stays_told (source.whole old);
  faults = omega arith;
  left = omega arith;
})

-- one that accepted fewer rows is sound so far too
fewer : (columns : List Column) (taken whole : Option (List ℕ)) (m n : ℕ) → m ≤ n → IsSoundSoFar columns taken whole n → IsSoundSoFar columns taken whole m
fewer columns None whole m n h is = tt
fewer columns (Some bytes) whole m n h is = omega arith

-- the columns stay
filled_on : (columns others : List Column) (rows : RowList) → others ≡ columns → FillColumns columns rows → FillColumns others rows
filled_on columns others rows e h = subst (λ cs. FillColumns cs rows) (sym e) h

-- what is known of an active reader's wrapper, in its own words
sound_in : {S M : Type 0} (source : Source S M) (w : Wrapped S) (st : MemberState) (why : Option MemberFault) → st ≡ state.Active → why ≡ None → SoundAs source w state.Active None → SoundAs source w st why
sound_in source w st why active none h =
    subst (λ t. SoundAs source w t why) (sym active) (subst (λ f. SoundAs source w state.Active f) (sym none) h)

-- ---- a row

module _ {S M : Type 0} (source : Source S M) (old mid : Reader S) (row : RowValues) (is : IsReader source old) (active : old.state ≡ state.Active) (takes : TakesNext source old mid (next.Row row)) where
  abbrev accepted_one : Reader S
  accepted_one = record mid { accepted = mid.accepted + 1 }

  one_more : mid.wrapper.accepted ≡ mid.accepted + 1
  one_more = takes.counted ∙ ap (λ n. n + 1) (sym takes.accepted_is)

  sound_active : SoundAs source mid.wrapper mid.state mid.fault
  sound_active = sound_in source mid.wrapper mid.state mid.fault (takes.state_is ∙ active) (takes.fault_is ∙ no_fault source old is active) takes.so_far

  waits_more : mid.waited ≤ source.waits mid.wrapper.source
  waits_more = subst (λ s. mid.waited ≤ source.waits s) (sym takes.source_is) (subst (λ n. n ≤ source.waits old.wrapper.source) (sym takes.waited_is) is.waited)

  filled_one : (rows : RowList) → ReaderAccepted source old rows → FillColumns mid.wrapper.ahead.columns (rows ++ row ∷ [])
  filled_one rows h = filled_on old.wrapper.ahead.columns mid.wrapper.ahead.columns (rows ++ row ∷ []) takes.columns_is
      (each_append (λ r. length r ≡ length old.wrapper.ahead.columns) rows (row ∷ []) h.0 (takes.answers.2, tt))

  begun_still : HasBegun mid.state
  begun_still = subst HasBegun (sym (takes.state_is ∙ active)) tt

  accepts_reader : IsReader source accepted_one
  accepts_reader = reads_all source accepted_one (is.rows ++ row ∷ []) takes.waits (filled_one is.rows is.given) (takes.given is.rows is.given) one_more takes.so_far takes.told sound_active takes.answers.0 waits_more begun_still

  accepts_row : Accepts source old accepted_one row
  accepts_row = record {
    was = active;
    held = takes.answers.1;
    accepted = λ rows h. reader_accepted source accepted_one (rows ++ row ∷ []) takes.waits (filled_one rows h) (takes.given rows h);
    counted = ap (λ n. n + 1) takes.accepted_is;
    source_is = takes.source_is;
    state_is = takes.state_is;
    fault_is = takes.fault_is;
    waited_is = takes.waited_is;
  }

  within : old.accepted + 1 ≤ most_rows
  within = subst (λ n. n ≤ most_rows) takes.counted takes.answers.0

  accepts_less : reader_left source accepted_one < reader_left source old
  accepts_less =
      let e = end_to_come old.wrapper.ahead.framed.ended in
      let k = some_kept old.wrapper.kept in
      let l = source.left old.wrapper.source in
      let new : reader_left source accepted_one ≡ reading_left (old.accepted + 1) l k e =
      left_active source accepted_one (takes.state_is ∙ active)
      ∙ ap (λ a. reading_left (a + 1) (source.left mid.wrapper.source) (some_kept mid.wrapper.kept) (end_to_come mid.wrapper.ahead.framed.ended)) takes.accepted_is
      ∙ ap (λ s. reading_left (old.accepted + 1) (source.left s) (some_kept mid.wrapper.kept) (end_to_come mid.wrapper.ahead.framed.ended)) takes.source_is
      ∙ ap (λ bs. reading_left (old.accepted + 1) l (some_kept bs) (end_to_come mid.wrapper.ahead.framed.ended)) takes.kept_is
      ∙ ap (λ t. reading_left (old.accepted + 1) l k (end_to_come t)) takes.ended_is in
      subst (λ n. n < reader_left source old) (sym new) (subst (λ n. reading_left (old.accepted + 1) l k e < n) (sym (left_active source old active)) (less_by_row most_rows old.accepted l k e within))

  pub took_row : (select : Select) (values : RowValues) → selected_row select row ≡ Some values → Took source select old accepted_one (collected.Row values)
  took_row select values e = record {
    reader = accepts_reader;
    reads = (row, accepts_row, e);
    columns = takes.columns_is;
    same = takes.source_is;
    falls = accepts_less;
  }

  pub took_unselected : (select : Select) → selected_row select row ≡ None → Took source select old accepted_one collected.Moved
  took_unselected select e = record {
    reader = accepts_reader;
    reads = inl (row, accepts_row, e);
    columns = takes.columns_is;
    same = takes.source_is;
    falls = accepts_less;
  }

  -- the row for whose values there was no memory waits
  abbrev waiting_one : Reader S
  waiting_one = record mid { waiting = Some row }

  sound_waiting : IsSoundState mid.wrapper.ahead.columns (source.taken mid.wrapper.source) (source.whole mid.wrapper.source) (source.faults mid.wrapper.source) mid.accepted mid.state mid.fault
  sound_waiting =
      let columns = mid.wrapper.ahead.columns in
      let taken = source.taken mid.wrapper.source in
      let whole = source.whole mid.wrapper.source in
      let faults = source.faults mid.wrapper.source in
      let few : mid.accepted ≤ mid.wrapper.accepted = omega (arith, one_more) in
      subst (λ st. IsSoundState columns taken whole faults mid.accepted st mid.fault) (sym (takes.state_is ∙ active))
      (subst (λ f. IsSoundState columns taken whole faults mid.accepted state.Active f) (sym (takes.fault_is ∙ no_fault source old is active))
      (fewer columns taken whole mid.accepted mid.wrapper.accepted few (takes.so_far (is.rows ++ row ∷ []) (takes.given is.rows is.given))))

  waits_reader : IsReader source waiting_one
  waits_reader = record {
    rows = is.rows;
    given = (filled_on old.wrapper.ahead.columns mid.wrapper.ahead.columns is.rows takes.columns_is is.given.0, takes.given is.rows is.given);
    counted = one_more;
    so_far = takes.so_far;
    told = takes.told;
    sound = sound_waiting;
    begun = begun_still;
    active = λ t. absurd (t (takes.state_is ∙ active));
    wide = takes.answers.2 ∙ ap length (sym takes.columns_is);
    few = takes.answers.0;
    waited = waits_more;
  }

  pub took_short : (select : Select) → Took source select old waiting_one collected.NoMemory
  took_short select = record {
    reader = waits_reader;
    reads = (
      active,
      record {
        nothing = record { accepted = λ rows h. (filled_on old.wrapper.ahead.columns mid.wrapper.ahead.columns rows takes.columns_is h.0, takes.given rows h); counted = takes.accepted_is };
        one_pull = inl takes.source_is;
        state_is = takes.state_is;
        fault_is = takes.fault_is;
        waited_is = takes.waited_is;
      },
    );
    columns = takes.columns_is;
    same = takes.source_is;
    falls = tt;
  }

-- ---- none

-- what was given of a reader that took none
module _ {S M : Type 0} (source : Source S M) (old mid : Reader S) (answer : NextRow) (none : row_of answer ≡ []) (is : IsReader source old) (active : old.state ≡ state.Active) (takes : TakesNext source old mid answer) where
  given_none : (rows : RowList) → ReaderAccepted source old rows → HasGiven source mid.wrapper rows
  given_none rows h = subst (λ rs. HasGiven source mid.wrapper rs) (ap (λ more. rows ++ more) none ∙ append-nil rows) (takes.given rows h)

  filled_none : (rows : RowList) → ReaderAccepted source old rows → FillColumns mid.wrapper.ahead.columns rows
  filled_none rows h = filled_on old.wrapper.ahead.columns mid.wrapper.ahead.columns rows takes.columns_is h.0

  all_counted : mid.wrapper.accepted ≡ mid.accepted
  all_counted = takes.counted ∙ ap (λ more. old.accepted + length more) none ∙ (omega (arith, takes.accepted_is))

  few_none : mid.wrapper.accepted ≤ most_rows
  few_none = omega (arith, all_counted, takes.accepted_is, is.counted, is.few)

  waited_none : mid.waited ≤ source.waits mid.wrapper.source
  waited_none = subst (λ s. mid.waited ≤ source.waits s) (sym takes.source_is) (subst (λ n. n ≤ source.waits old.wrapper.source) (sym takes.waited_is) is.waited)

  -- a fault was reached
  abbrev failed_at : MemberFault → Reader S
  failed_at why = record mid { state = state.Failed; fault = Some why }

  pub took_fault : (select : Select) (why : MemberFault) → fault_of mid.wrapper ≡ Some why → SoundAs source mid.wrapper state.Failed (Some why)
      → Took source select old (failed_at why) collected.Moved
  took_fault select why reached sound = record {
    reader = reads_all source (failed_at why) is.rows takes.waits (filled_none is.rows is.given) (given_none is.rows is.given) all_counted takes.so_far takes.told sound few_none waited_none tt;
    reads = inr (
      why,
      record {
        was = active;
        nothing = record { accepted = λ rows h. reader_accepted source (failed_at why) rows takes.waits (filled_none rows h) (given_none rows h); counted = takes.accepted_is };
        source_is = takes.source_is;
        reached = reached;
        state_is = refl;
        fault_is = refl;
        waited_is = takes.waited_is;
      },
    );
    columns = takes.columns_is;
    same = takes.source_is;
    falls = subst (λ n. 0 < n) (sym (left_active source old active)) (omega arith);
  }

  reader_none : IsReader source mid
  reader_none = reads_all source mid is.rows takes.waits (filled_none is.rows is.given) (given_none is.rows is.given) all_counted takes.so_far takes.told
      (sound_in source mid.wrapper mid.state mid.fault (takes.state_is ∙ active) (takes.fault_is ∙ no_fault source old is active) takes.so_far) few_none waited_none (subst HasBegun (sym (takes.state_is ∙ active)) tt)

  accepts_nothing : AcceptsNothing source old mid
  accepts_nothing = record { accepted = λ rows h. reader_accepted source mid rows takes.waits (filled_none rows h) (given_none rows h); counted = takes.accepted_is }

  -- no memory was there
  pub took_nowhere : (select : Select) → Took source select old mid collected.NoMemory
  took_nowhere select = record {
    reader = reader_none;
    reads = (
      active,
      record {
        nothing = accepts_nothing;
        one_pull = inl takes.source_is;
        state_is = takes.state_is;
        fault_is = takes.fault_is;
        waited_is = takes.waited_is;
      },
    );
    columns = takes.columns_is;
    same = takes.source_is;
    falls = tt;
  }

  left_none : reader_left source mid ≡ reader_left source old
  left_none = left_active source mid (takes.state_is ∙ active)
      ∙ ap (λ a. reading_left a (source.left mid.wrapper.source) (some_kept mid.wrapper.kept) (end_to_come mid.wrapper.ahead.framed.ended)) takes.accepted_is
      ∙ ap (λ s. reading_left old.accepted (source.left s) (some_kept mid.wrapper.kept) (end_to_come mid.wrapper.ahead.framed.ended)) takes.source_is
      ∙ ap (λ bs. reading_left old.accepted (source.left old.wrapper.source) (some_kept bs) (end_to_come mid.wrapper.ahead.framed.ended)) takes.kept_is
      ∙ ap (λ t. reading_left old.accepted (source.left old.wrapper.source) (some_kept old.wrapper.kept) (end_to_come t)) takes.ended_is
      ∙ sym (left_active source old active)

  -- nothing was held
  pub took_nothing : (select : Select) → old.waiting ≡ None → HoldsNothing mid.wrapper.ahead → fault_of mid.wrapper ≡ None → Took source select old mid collected.Still
  took_nothing select unheld holds calm = record {
    reader = reader_none;
    reads = inr (record {
      was = active;
      none = unheld;
      nothing = accepts_nothing;
      waits = takes.waits;
      holds = (holds, calm);
      source_is = takes.source_is;
      kept_is = takes.kept_is;
      ended_is = takes.ended_is;
      state_is = takes.state_is;
      fault_is = takes.fault_is;
      waited_is = takes.waited_is;
    });
    columns = takes.columns_is;
    same = takes.source_is;
    falls = omega (arith, left_none);
  }

pub took_none : {S M : Type 0} (source : Source S M) (old mid : Reader S) → IsReader source old → old.state ≡ state.Active → TakesNext source old mid next.Nothing → (select : Select)
    → Took source select old mid collected.Still
took_none source old mid is active takes select = took_nothing source old mid next.Nothing refl is active takes select takes.answers.0 takes.answers.1 takes.answers.2

-- ---- a step that accepted what is held

found : {S M : Type 0} (source : Source S M) (old mid : Reader S) → ((old.state ≢ state.Active) × (mid ≡ old)) ⊎ FindsNothing source old mid → mid.state ≡ state.Active → FindsNothing source old mid
found source old mid (inl over) active = absurd (over.0 (sym (ap (λ r. r.state) over.1) ∙ active))
found source old mid (inr finds) active = finds

reads_on : {S M : Type 0} (source : Source S M) (select : Select) (old new : Reader S) (result : Collected) → (result ≡ collected.Still → new.state ≢ state.Active)
    → ReadsHeld source select old new result → ReadsOn source select old new result
reads_on source select old new (collected.Row values) over reads = reads
reads_on source select old new collected.Moved over (inl accepts) = inl accepts
reads_on source select old new collected.Moved over (inr reaches) = inr (inl reaches)
reads_on source select old new collected.Still over (inl was) = inl was
reads_on source select old new collected.Still over (inr finds) = absurd (over refl (finds.state_is ∙ finds.was))
reads_on source select old new collected.NoMemory over reads = reads

pub went_held : {S M : Type 0} (source : Source S M) (select : Select) (old new : Reader S) (result : Collected) → (result ≡ collected.Still → new.state ≢ state.Active)
    → Took source select old new result → Went source select old new result
went_held source select old new result over took = record {
  reader = took.reader;
  reads = reads_on source select old new result over took.reads;
  columns = took.columns;
  same = same_source source old.wrapper.source new.wrapper.source took.same;
  falls = took.falls;
}

-- ---- a pull

-- what a pull of the wrapper makes of a reader
pub pulled_from : {S M : Type 0} (source : Source S M) (old new : Reader S) (answer : Pulled) → new.waiting ≡ None → new.accepted ≡ old.accepted
    → new.state ≡ state_after answer → new.fault ≡ fault_after answer → new.waited ≡ waited_after answer old.waited
    → SameSource source old.wrapper.source new.wrapper.source → new.wrapper.ahead.columns ≡ old.wrapper.ahead.columns
    → ((given : RowList) → HasGiven source old.wrapper given → HasGiven source new.wrapper given)
    → IsPulled source old.wrapper new.wrapper answer → (AsksSource old.wrapper → AnswersOnePull source old.wrapper.source new.wrapper.source answer)
    → (LeavesSource old.wrapper → new.wrapper.source ≡ old.wrapper.source) → CountsWaits source old.wrapper.source new.wrapper.source answer → MovesBy source old.wrapper new.wrapper answer
    → new.wrapper.accepted ≡ old.wrapper.accepted → AcceptedAs source new.wrapper → (old.wrapper.ahead.framed.ended ≡ true → IsLast answer) → SoundAs source new.wrapper state.Active None
    → PulledBy source old new answer
pulled_from source old new answer none counted active unfaulted waited same named gave answers asks leaves waits moves given told last so_far = record {
  waits = none;
  accepted_is = counted;
  state_is = active;
  fault_is = unfaulted;
  waited_is = waited;
  source_is = same;
  columns_is = named;
  given = gave;
  counted = given;
  so_far = so_far;
  told = told;
  last = last;
  one_pull = asks;
  no_pull = leaves;
  waits_counted = waits;
  answers = answers;
  moved = moves;
}

-- what the answer says of the reader's soundness
sound_after : {S M : Type 0} (source : Source S M) (old new : Wrapped S) (answer : Pulled) → IsPulled source old new answer → SoundAs source new state.Active None
    → SoundAs source new (state_after answer) (fault_after answer)
sound_after source old new pulled.Moved is so_far = so_far
sound_after source old new pulled.NotYet is so_far = so_far
sound_after source old new pulled.Ended is so_far = is.3
sound_after source old new (pulled.Failed why) is so_far = is.sound
sound_after source old new pulled.NoMemory is so_far = so_far

begun_after : (answer : Pulled) → HasBegun (state_after answer)
begun_after pulled.Moved = tt
begun_after pulled.NotYet = tt
begun_after pulled.Ended = tt
begun_after (pulled.Failed why) = tt
begun_after pulled.NoMemory = tt

-- what the answer says of the count of waits
waits_after : {S M : Type 0} (source : Source S M) (old new : S) (answer : Pulled) (waited : ℕ) → CountsWaits source old new answer → waited ≤ source.waits old
    → waited_after answer waited ≤ source.waits new
waits_after source old new pulled.Moved waited is h = omega arith
waits_after source old new pulled.NotYet waited is h = omega arith
waits_after source old new pulled.Ended waited is h = omega arith
waits_after source old new (pulled.Failed why) waited is h = omega arith
waits_after source old new pulled.NoMemory waited is h = omega arith

sound_in_state : {S M : Type 0} (source : Source S M) (w : Wrapped S) (st : MemberState) (why : Option MemberFault) (answer : Pulled) → st ≡ state_after answer → why ≡ fault_after answer
    → SoundAs source w (state_after answer) (fault_after answer) → SoundAs source w st why
sound_in_state source w st why answer e f h = subst (λ t. SoundAs source w t why) (sym e) (subst (λ y. SoundAs source w (state_after answer) y) (sym f) h)

module _ {S M : Type 0} (source : Source S M) (mid new : Reader S) (active : mid.state ≡ state.Active) where
  abbrev mid_left : ℕ
  mid_left = reading_left mid.accepted (source.left mid.wrapper.source) (some_kept mid.wrapper.kept) (end_to_come mid.wrapper.ahead.framed.ended)

  abbrev new_left : ℕ
  new_left = reading_left mid.accepted (source.left new.wrapper.source) (some_kept new.wrapper.kept) (end_to_come new.wrapper.ahead.framed.ended)

  new_is : (answer : Pulled) → PulledBy source mid new answer → state_after answer ≡ state.Active → reader_left source new ≡ new_left
  new_is answer by still = left_active source new (by.state_is ∙ still)
      ∙ ap (λ a. reading_left a (source.left new.wrapper.source) (some_kept new.wrapper.kept) (end_to_come new.wrapper.ahead.framed.ended)) by.accepted_is

  less_from : reader_left source new ≡ new_left → new_left < mid_left → reader_left source new < reader_left source mid
  less_from e h = subst (λ n. n < reader_left source mid) (sym e) (subst (λ n. new_left < n) (sym (left_active source mid active)) h)

  no_more_from : reader_left source new ≡ new_left → new_left ≤ mid_left → reader_left source new ≤ reader_left source mid
  no_more_from e h = subst (λ n. n ≤ reader_left source mid) (sym e) (subst (λ n. new_left ≤ n) (sym (left_active source mid active)) h)

  over_less : reader_left source new ≡ 0 → reader_left source new < reader_left source mid
  over_less e = subst (λ n. n < reader_left source mid) (sym e) (subst (λ n. 0 < n) (sym (left_active source mid active)) (omega arith))

  how : HasMovedBytes source mid.wrapper new.wrapper
      → ((new.wrapper.ahead.framed.ended ≡ false) × ((source.left new.wrapper.source + 1 ≤ source.left mid.wrapper.source) ⊎ ((0 < length mid.wrapper.kept) × (new.wrapper.kept ≡ []))))
      ⊎ (new.wrapper.ahead.framed.ended ≡ true)
  how (inl bytes) = inl bytes
  how (inr ended) = inr ended.0

  pulled_falls : (answer : Pulled) → PulledBy source mid new answer → Falls (collected_by answer) (reader_left source mid) (reader_left source new)
  pulled_falls pulled.Moved by = less_from (new_is pulled.Moved by refl)
      (moved_less mid.accepted (source.left new.wrapper.source) (source.left mid.wrapper.source) new.wrapper.kept mid.wrapper.kept new.wrapper.ahead.framed.ended mid.wrapper.ahead.framed.ended
      by.source_is.left by.answers.2 by.last (how by.answers.0))
  pulled_falls pulled.NotYet by = no_more_from (new_is pulled.NotYet by refl)
      (still_no_more mid.accepted (source.left new.wrapper.source) (source.left mid.wrapper.source) new.wrapper.kept mid.wrapper.kept new.wrapper.ahead.framed.ended mid.wrapper.ahead.framed.ended
      by.source_is.left by.answers.4 by.last by.answers.1)
  pulled_falls pulled.Ended by = over_less (left_over source new state.Ended by.state_is (λ n. refl))
  pulled_falls (pulled.Failed why) by = over_less (left_over source new state.Failed by.state_is (λ n. refl))
  pulled_falls pulled.NoMemory by = tt

less_still : (result : Collected) (old mid new : ℕ) → mid ≤ old → Falls result mid new → Falls result old new
less_still (collected.Row values) old mid new h falls = omega arith
less_still collected.Moved old mid new h falls = omega arith
less_still collected.Still old mid new h falls = omega arith
less_still collected.NoMemory old mid new h falls = tt

-- a wrapper without a fault asks its source, or leaves it
asks_or_leaves : {S : Type 0} (w : Wrapped S) (ended : Bool) (kept : List ℕ) → w.ahead.framed.ended ≡ ended → w.kept ≡ kept → fault_of w ≡ None → AsksSource w ⊎ LeavesSource w
asks_or_leaves w true kept is same calm = inr (inr (inl is))
asks_or_leaves w false [] is same calm = inl (calm, is, same)
asks_or_leaves w false (byte ∷ bytes) is same calm = inr (inr (inr (subst (λ bs. 0 < length bs) (sym same) (omega arith))))

once_at_most : {S M : Type 0} (source : Source S M) (w : Wrapped S) (new : S) → AsksSource w ⊎ LeavesSource w → (AsksSource w → AnswersOnePull source w.source new pulled.NoMemory)
    → (LeavesSource w → new ≡ w.source) → PullsOnceAtMost source w.source new
once_at_most source w new (inl asks) one_pull no_pull = inr (one_pull asks)
once_at_most source w new (inr leaves) one_pull no_pull = inl (no_pull leaves)

module _ {S M : Type 0} (source : Source S M) (select : Select) (old mid new : Reader S) (took : Took source select old mid collected.Still) (active : mid.state ≡ state.Active) where
  pub finds : FindsNothing source old mid
  finds = found source old mid took.reads active

  given_mid : (rows : RowList) → ReaderAccepted source old rows → HasGiven source mid.wrapper rows
  given_mid rows h = subst (λ rs. HasGiven source mid.wrapper rs) (append-nil rows) (subst (λ w. HasGiven source mid.wrapper (rows ++ option_to_list w)) finds.waits (finds.nothing.accepted rows h).1)

  all_mid : mid.wrapper.accepted ≡ mid.accepted
  all_mid = took.reader.counted ∙ subst (λ w. mid.accepted + length (option_to_list w) ≡ mid.accepted) (sym finds.waits) (omega arith)

  module _ (answer : Pulled) (by : PulledBy source mid new answer) where
    filled_pulled : (rows : RowList) → FillColumns mid.wrapper.ahead.columns rows → FillColumns new.wrapper.ahead.columns rows
    filled_pulled rows h = filled_on mid.wrapper.ahead.columns new.wrapper.ahead.columns rows by.columns_is h

    accepts_none : AcceptsNothing source old new
    accepts_none = record {
      accepted = λ rows h. reader_accepted source new rows by.waits (filled_pulled rows (finds.nothing.accepted rows h).0) (by.given rows (given_mid rows h));
      counted = by.accepted_is ∙ finds.nothing.counted;
    }

    given_pulled : HasGiven source new.wrapper took.reader.rows
    given_pulled = by.given took.reader.rows (subst (λ rs. HasGiven source mid.wrapper rs) (append-nil took.reader.rows)
        (subst (λ w. HasGiven source mid.wrapper (took.reader.rows ++ option_to_list w)) finds.waits took.reader.given.1))

    all_pulled : new.wrapper.accepted ≡ new.accepted
    all_pulled = by.counted ∙ all_mid ∙ sym by.accepted_is

    reader_pulled : IsReader source new
    reader_pulled = reads_all source new took.reader.rows by.waits (filled_pulled took.reader.rows took.reader.given.0) given_pulled all_pulled by.so_far by.told
        (sound_in_state source new.wrapper new.state new.fault answer by.state_is by.fault_is (sound_after source mid.wrapper new.wrapper answer by.answers by.so_far))
        (omega (arith, by.counted, took.reader.few))
        (subst (λ n. n ≤ source.waits new.wrapper.source) (sym by.waited_is) (waits_after source mid.wrapper.source new.wrapper.source answer mid.waited by.waits_counted took.reader.waited))
        (subst HasBegun (sym by.state_is) (begun_after answer))

    pulls : Pulls source old new answer
    pulls = record {
      was = finds.was;
      nothing = accepts_none;
      before = mid.wrapper;
      given = given_mid;
      source_is = finds.source_is;
      kept_is = finds.kept_is;
      ended_is = finds.ended_is;
      holds = finds.holds;
      one_pull = by.one_pull;
      no_pull = by.no_pull;
      waits = by.waits_counted;
      answers = by.answers;
      moved = by.moved;
      state_is = by.state_is;
      fault_is = by.fault_is;
      waited_is = by.waited_is ∙ ap (waited_after answer) finds.waited_is;
    }

    same_pulled : SameSource source old.wrapper.source new.wrapper.source
    same_pulled = subst (λ s. SameSource source s new.wrapper.source) took.same by.source_is

    falls_pulled : Falls (collected_by answer) (reader_left source old) (reader_left source new)
    falls_pulled = less_still (collected_by answer) (reader_left source old) (reader_left source mid) (reader_left source new) took.falls (pulled_falls source mid new active answer by)

  short_of_memory : PulledBy source mid new pulled.NoMemory → StandsStill source old new
  short_of_memory by = record {
    nothing = accepts_none pulled.NoMemory by;
    one_pull = subst (λ s. PullsOnceAtMost source s new.wrapper.source) finds.source_is (once_at_most source mid.wrapper new.wrapper.source
        (asks_or_leaves mid.wrapper mid.wrapper.ahead.framed.ended mid.wrapper.kept refl refl finds.holds.1) by.one_pull by.no_pull);
    state_is = by.state_is ∙ sym finds.was;
    fault_is = by.fault_is ∙ sym (no_fault source mid took.reader active) ∙ finds.fault_is;
    waited_is = by.waited_is ∙ finds.waited_is;
  }

  reads_pulled : (answer : Pulled) → PulledBy source mid new answer → ReadsOn source select old new (collected_by answer)
  reads_pulled pulled.Moved by = inr (inr (pulled.Moved, pulls pulled.Moved by, tt))
  reads_pulled pulled.NotYet by = inr (pulls pulled.NotYet by)
  reads_pulled pulled.Ended by = inr (inr (pulled.Ended, pulls pulled.Ended by, tt))
  reads_pulled (pulled.Failed why) by = inr (inr (pulled.Failed why, pulls (pulled.Failed why) by, tt))
  reads_pulled pulled.NoMemory by = (finds.was, short_of_memory by)

  pub went_pull : (result : Collected) → PullsAs source mid new result → Went source select old new result
  went_pull result by =
      subst (λ r. Went source select old new r) (sym by.2) (record {
        reader = reader_pulled by.0 by.1;
        reads = reads_pulled by.0 by.1;
        columns = by.1.columns_is ∙ took.columns;
        same = same_pulled by.0 by.1;
        falls = falls_pulled by.0 by.1;
      })
