-- Readers: how they begin, and how they take the next row that is held.
use Rattle.std.proofs.Common.{◌≡◌, ℕ, ◌+◌, ◌≤◌, List, [], ◌∷◌, ◌++◌, length, take, Option, Some, None, IfSome, refl, sym, ap, subst, ◌∙◌, arith, append-nil}
use Rattle.std.specs.Prelude.{option_map, option_to_list}
use Rattle.med_base.specs.declared.member.MemberFault.{MemberFault}
use Rattle.med_base.specs.declared.member.MemberState.TheVariants as state
use Rattle.med_base.specs.declared.outside.source.Source.{Ghosts as Source}
use Rattle.tuple_core.specs.declared.columns.Column.{Column}
use Rattle.tuple_core.specs.Values.{RowList, RowValues}
use Rattle.csv_wrap.specs.Ahead.{FillColumns}
use Rattle.csv_wrap.specs.Sound.{IsSoundSoFar, IsSoundState, taken_rows}
use Rattle.csv_wrap.specs.Wrapped.{AcceptedAs, FillsColumns, HasGiven, IsNext, SoundAs, Wrapped, row_of}
use Rattle.csv_wrap.specs.declared.wrapper.NextRow.{NextRow}
use Rattle.csv_wrap.specs.declared.wrapper.NextRow.TheVariants as next
use Rattle.collect_core.specs.Reading.{HasBegun, IsReader, Reader, ReaderAccepted, most_rows}
use Rattle.collect_core.specs.Turning.{IsFresh, TakesAs, TakesNext}

-- ---- states

-- a reader that is active has no fault
pub active_unfaulted : {S M : Type 0} (source : Source S M) (columns : List Column) (taken whole : Option (List ℕ)) (faults accepted : ℕ) (why : Option MemberFault)
    → IsSoundState columns taken whole faults accepted state.Active why → why ≡ None
active_unfaulted source columns taken whole faults accepted None h = refl
active_unfaulted source columns taken whole faults accepted (Some why) h = absurd h

pub no_fault : {S M : Type 0} (source : Source S M) (r : Reader S) → IsReader source r → r.state ≡ state.Active → r.fault ≡ None
no_fault source r is active =
    let columns = r.wrapper.ahead.columns in
    let taken = source.taken r.wrapper.source in
    let whole = source.whole r.wrapper.source in
    let faults = source.faults r.wrapper.source in
    active_unfaulted source columns taken whole faults r.accepted r.fault (subst (λ st. IsSoundState columns taken whole faults r.accepted st r.fault) active is.sound)

-- rows that were accepted of a reader that holds no row back
pub reader_accepted : {S M : Type 0} (source : Source S M) (r : Reader S) (rows : RowList) → r.waiting ≡ None → FillColumns r.wrapper.ahead.columns rows → HasGiven source r.wrapper rows
    → ReaderAccepted source r rows
reader_accepted source r rows none wide given =
    (wide, subst (λ w. HasGiven source r.wrapper (rows ++ option_to_list w)) (sym none) (subst (λ rs. HasGiven source r.wrapper rs) (sym (append-nil rows)) given))

-- a reader that holds no row back
pub reads_all : {S M : Type 0} (source : Source S M) (r : Reader S) (rows : RowList) → r.waiting ≡ None → FillColumns r.wrapper.ahead.columns rows → HasGiven source r.wrapper rows
    → r.wrapper.accepted ≡ r.accepted → SoundAs source r.wrapper state.Active None → AcceptedAs source r.wrapper → SoundAs source r.wrapper r.state r.fault
    → r.wrapper.accepted ≤ most_rows → r.waited ≤ source.waits r.wrapper.source → HasBegun r.state → IsReader source r
reads_all source r rows none full given counted so_far told sound few waited begun = record {
  rows = rows;
  given = reader_accepted source r rows none full given;
  counted = counted ∙ subst (λ w. r.accepted ≡ r.accepted + length (option_to_list w)) (sym none) (omega arith);
  so_far = so_far;
  told = told;
  sound = subst (λ n. IsSoundState r.wrapper.ahead.columns (source.taken r.wrapper.source) (source.whole r.wrapper.source) (source.faults r.wrapper.source) n r.state r.fault) counted (sound rows given);
  begun = begun;
  active = λ t. none;
  wide = subst (λ w. IfSome w (λ row. length row ≡ length r.wrapper.ahead.columns)) (sym none) tt;
  few = few;
  waited = waited;
}

-- ---- a fresh one

none_sound : (columns : List Column) (taken whole : Option (List ℕ)) (accepted : ℕ) → accepted ≡ 0 → IsSoundSoFar columns taken whole accepted
none_sound columns None whole accepted e = tt
none_sound columns (Some bytes) whole accepted e = omega arith

none_told : (columns : List Column) (taken whole : Option (List ℕ)) (accepted : ℕ) (given : RowList) → accepted ≡ 0 → accepted ≡ length given
    → IfSome (option_map (λ bytes. take accepted (taken_rows columns whole bytes)) taken) (λ rows. rows ≡ given)
none_told columns None whole accepted given none count = tt
none_told columns (Some bytes) whole accepted [] none count = ap (λ n. take n (taken_rows columns whole bytes)) none
none_told columns (Some bytes) whole accepted (row ∷ given) none count = absurd (omega arith)

pub fresh_reader : {S M : Type 0} (source : Source S M) (columns : List Column) (s : S) (r : Reader S) → r.wrapper.source ≡ s → r.wrapper.ahead.columns ≡ columns → r.wrapper.accepted ≡ 0
    → HasGiven source r.wrapper [] → r.waiting ≡ None → r.accepted ≡ 0 → r.state ≡ state.Active → r.fault ≡ None → r.waited ≡ 0 → IsFresh source columns s r
fresh_reader source columns s r from named none given waits counted active unfaulted waited =
    let so_far : SoundAs source r.wrapper state.Active None = λ rows h. none_sound r.wrapper.ahead.columns (source.taken r.wrapper.source) (source.whole r.wrapper.source) r.wrapper.accepted none in
    let told : AcceptedAs source r.wrapper = λ rows h. none_told r.wrapper.ahead.columns (source.taken r.wrapper.source) (source.whole r.wrapper.source) r.wrapper.accepted rows none h.0 in
    let sound : SoundAs source r.wrapper r.state r.fault =
    subst (λ st. SoundAs source r.wrapper st r.fault) (sym active) (subst (λ f. SoundAs source r.wrapper state.Active f) (sym unfaulted) so_far) in
    record {
      reader = reads_all source r [] waits tt given (none ∙ sym counted) so_far told sound (omega arith) (omega arith) (subst HasBegun (sym active) tt);
      accepted = reader_accepted source r [] waits tt given;
      counted = counted;
      source_is = from;
      columns_is = named;
      state_is = active;
      fault_is = unfaulted;
      waited_is = waited;
    }

-- ---- the next row

one_waits : (rows : RowList) (row : RowValues) (accepted given : ℕ) (waiting : Option RowValues) → waiting ≡ Some row → given ≡ accepted + length (option_to_list waiting) → given ≡ accepted + 1
one_waits rows row accepted given waiting e h = h ∙ ap (λ w. accepted + length (option_to_list w)) e

pub takes_waiting : {S M : Type 0} (source : Source S M) (old : Reader S) (row : RowValues) → IsReader source old → old.waiting ≡ Some row
    → TakesNext source old (record old { waiting = None }) (next.Row row)
takes_waiting source old row is e = record {
  waits = refl;
  accepted_is = refl;
  state_is = refl;
  fault_is = refl;
  waited_is = refl;
  source_is = refl;
  columns_is = refl;
  kept_is = refl;
  ended_is = refl;
  given = λ rows h. subst (λ w. HasGiven source old.wrapper (rows ++ option_to_list w)) e h.1;
  counted = is.counted ∙ ap (λ w. old.accepted + length (option_to_list w)) e;
  so_far = is.so_far;
  told = is.told;
  answers = (is.few, λ none held. absurd (let clash : Some row ≡ None = sym e ∙ none in cc), subst (λ w. IfSome w (λ r. length r ≡ length old.wrapper.ahead.columns)) e is.wide);
}

takes_as : {S M : Type 0} (source : Source S M) (old : Reader S) (w : Wrapped S) (answer : NextRow) → old.waiting ≡ None → IsNext source old.wrapper w answer → FillsColumns old.wrapper.ahead.columns answer
    → TakesAs source old (record old { wrapper = w; waiting = None }) answer
takes_as source old w (next.Row row) none is wide = (is.0, λ none. is.1, wide)
takes_as source old w next.Nothing none is wide = (none, is.0, is.1)
takes_as source old w (next.Failed why) none is wide = (is.reached, is.sound)
takes_as source old w next.NoMemory none is wide = tt

pub takes_held : {S M : Type 0} (source : Source S M) (old : Reader S) (w : Wrapped S) (answer : NextRow) → IsReader source old → old.waiting ≡ None
    → w.source ≡ old.wrapper.source → w.ahead.columns ≡ old.wrapper.ahead.columns → ((given : RowList) → HasGiven source old.wrapper given → HasGiven source w (given ++ row_of answer))
    → IsNext source old.wrapper w answer → FillsColumns old.wrapper.ahead.columns answer → w.accepted ≡ old.wrapper.accepted + length (row_of answer)
    → w.kept ≡ old.wrapper.kept → w.ahead.framed.ended ≡ old.wrapper.ahead.framed.ended → SoundAs source w state.Active None → AcceptedAs source w
    → TakesNext source old (record old { wrapper = w; waiting = None }) answer
takes_held source old w answer is none from named gave answers wide counted kept ended sound told =
    let all : old.wrapper.accepted ≡ old.accepted = is.counted ∙ ap (λ v. old.accepted + length (option_to_list v)) none ∙ omega arith in
    record {
      waits = refl;
      accepted_is = refl;
      state_is = refl;
      fault_is = refl;
      waited_is = refl;
      source_is = from;
      columns_is = named;
      kept_is = kept;
      ended_is = ended;
      given = λ rows h. gave rows (subst (λ rs. HasGiven source old.wrapper rs) (append-nil rows) (subst (λ v. HasGiven source old.wrapper (rows ++ option_to_list v)) none h.1));
      counted = counted ∙ ap (λ n. n + length (row_of answer)) all;
      so_far = sound;
      told = told;
      answers = takes_as source old w answer none answers wide;
    }
