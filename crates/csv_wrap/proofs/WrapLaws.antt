-- What a wrapper has given, and the soundness of a member that it serves.
use Rattle.std.proofs.Common.{◌≡◌, ◌≤◌, ◌<◌, ◌==◌, ◌&&◌, ℕ, zero, suc, inl, inr, Bool, true, false, List, [], ◌∷◌, ◌++◌, length, take, option_map, Option, Some, None, IfSome, arith, refl, sym, ap, ◌∙◌, length-append, append-nil, subst, if◌then◌else◌}
use Rattle.std.proofs.Math.Seq.{take-append_seam}
use Rattle.std.proofs.lemmas.Bool.Decides.{nat_tests}
use Rattle.std.specs.Cmp.Lexicographic.{bytes_decides}
use Rattle.med_base.specs.declared.member.MemberFault.{MemberFault}
use Rattle.med_base.specs.declared.member.MemberFault.TheVariants as fault
use Rattle.med_base.specs.declared.member.MemberState.TheVariants as state
use Rattle.med_base.specs.declared.outside.source.Source.{Ghosts as Source}
use Rattle.med_prelude.specs.Texts.{IsWhole}
use Rattle.tuple_core.specs.declared.columns.Column.{Column}
use Rattle.tuple_core.specs.declared.value.Value.{Value}
use Rattle.csv_frame.specs.Frames.{frames}
use Rattle.csv_wrap.specs.Readings.{Reading, rows_then, clean_reading, failed_reading, read_frames, source_reading}
use Rattle.csv_wrap.specs.Sound.{FailedByBytes, FailedByRead, IsOfBytes, IsSoundEnd, IsSoundSoFar, is_all, taken_rows}
use Rattle.csv_wrap.proofs.VerdictLaws.{bad_kept, not_read}
use Rattle.csv_wrap.specs.Ahead.{Ahead, HoldsNothing, IsReadAhead, KeepsFuture, fault_behind, future, unless_bad}
use Rattle.med_prelude.specs.Counts.{Rose}
use Rattle.csv_wrap.specs.declared.wrapper.Pulled.{Pulled}
use Rattle.csv_wrap.specs.declared.wrapper.Pulled.TheVariants as pulled
use Rattle.med_base.specs.declared.outside.source.Pull.{Pull}
use Rattle.csv_wrap.specs.Pulls.{AnswersOnePull, AnswersPull, ComesOfOnePull, IsOnePull, TellsEnd}
use Rattle.csv_wrap.specs.declared.wrapper.Came.TheVariants as came
use Rattle.csv_wrap.specs.Wrapped.{AcceptedAs, Continues, IsEnd, IsFault, IsPulled, IsWrapped, SoundAs, Wrapped, fault_of}

-- nothing is given of a source of which nothing was taken
pub none_given : {S : Type 0} (w : Wrapped S) (columns : List Column) (taken : Option (List ℕ)) → IfSome taken (λ bytes. bytes ≡ [])
    → w.ahead ≡ record { columns = columns; rows = []; bad = None; number = 0; framed = record { bytes = []; rest = []; at = 0; ended = false } } → w.kept ≡ []
    → IfSome taken (λ bytes. Continues w bytes [])
none_given w columns None fresh e k = tt
none_given w columns (Some bytes) fresh e k = λ more ended goes. rw (fresh, e, k) refl

-- the bytes are all of a text that is the same
all_itself : (whole : Option (List ℕ)) (bytes : List ℕ) → whole ≡ Some bytes → is_all whole bytes ≡ true
all_itself whole bytes e = rw e ((bytes_decides bytes bytes).1 refl)

-- what is given and to be given, where nothing follows
now_read : {S : Type 0} (w : Wrapped S) (bytes : List ℕ) (given : List (List Value)) (ended : Bool) → Continues w bytes given → (w.ahead.framed.ended ≡ true → ended ≡ true)
    → source_reading w.ahead.columns bytes ended ≡ rows_then given (future w.ahead (w.kept ++ []) ended)
now_read w bytes given ended h told =
    ap (λ (bs : List ℕ). source_reading w.ahead.columns bs ended) (sym (append-nil bytes)) ∙ h [] ended (λ t. (refl, told t))

rows_is : {a b : Reading} → a ≡ b → a.rows ≡ b.rows
rows_is e = ap (λ (r : Reading). r.rows) e

verdict_is : {a b : Reading} → a ≡ b → a.verdict ≡ b.verdict
verdict_is e = ap (λ (r : Reading). r.verdict) e

of_bytes : (bad : Option MemberFault) (why : MemberFault) → bad ≡ Some why → IfSome bad IsOfBytes → IsOfBytes why
of_bytes bad why e is = let P : Option MemberFault → Type 0 = λ v. IfSome v IsOfBytes in subst P e is

sound_so_far : {S : Type 0} (w : Wrapped S) (taken whole : Option (List ℕ)) (given : List (List Value)) → (w.ahead.framed.ended ≡ true → IsWhole taken whole)
    → w.accepted ≡ length given → IfSome taken (λ bytes. Continues w bytes given) → IsSoundSoFar w.ahead.columns taken whole w.accepted
sound_so_far w None whole given all count h = tt
sound_so_far w (Some bytes) whole given all count h =
    let e = is_all whole bytes in
    let r = now_read w bytes given e h (λ t. all_itself whole bytes (all t)) in
    omega (arith, count, ap length (rows_is r), length-append given (future w.ahead (w.kept ++ []) e).rows)

-- nothing is still to be given where nothing is held
none_left : (a : Ahead) (kept : List ℕ) (ended : Bool) → HoldsNothing a → a.framed.ended ≡ ended → kept ≡ [] → (ended && (a.number == 0)) ≡ false → future a (kept ++ []) ended ≡ clean_reading
none_left a kept ended h told k numbered =
    let none : frames (a.framed.rest ++ (kept ++ [])) ended ≡ [] =
    ap (λ (bs : List ℕ). frames (a.framed.rest ++ (bs ++ [])) ended) k ∙ ap (λ (bs : List ℕ). frames bs ended) (append-nil a.framed.rest) ∙ ap (λ (e : Bool). frames a.framed.rest e) (sym told) ∙ h.frames in
    ap (λ (rs : List (List Value)). rows_then rs (unless_bad a.bad (read_frames a.number a.columns (frames (a.framed.rest ++ (kept ++ [])) ended) ended))) h.rows
    ∙ ap (λ (b : Option MemberFault). rows_then [] (unless_bad b (read_frames a.number a.columns (frames (a.framed.rest ++ (kept ++ [])) ended) ended))) h.bad
    ∙ ap (λ (fs : List (Option (List ℕ))). read_frames a.number a.columns fs ended) none ∙ rw numbered refl

given_clean : (given : List (List Value)) → rows_then given clean_reading ≡ record { rows = given; verdict = None }
given_clean given = ap (λ (rs : List (List Value)). record { rows = rs; verdict = None }) (append-nil given)

given_bad : (given : List (List Value)) (why : MemberFault) → rows_then given (failed_reading why) ≡ record { rows = given; verdict = Some why }
given_bad given why = ap (λ (rs : List (List Value)). record { rows = rs; verdict = Some why }) (append-nil given)

some_number : (n : ℕ) → 0 < n → (n == 0) ≡ false
some_number zero h = absurd (omega arith)
some_number (suc n) h = grind (arith, nat_tests)

sound_end : {S : Type 0} (w : Wrapped S) (taken whole : Option (List ℕ)) (given : List (List Value)) → IsWhole taken whole → w.ahead.framed.ended ≡ true → w.kept ≡ [] → HoldsNothing w.ahead → 0 < w.ahead.number
    → w.accepted ≡ length given → IfSome taken (λ bytes. Continues w bytes given) → IsSoundEnd w.ahead.columns taken whole w.accepted
sound_end w None whole given all told k nothing some count h = (all, tt)
sound_end w (Some bytes) whole given all told k nothing some count h =
    let r = now_read w bytes given true h (λ t. refl) ∙ ap (rows_then given) (none_left w.ahead w.kept true nothing told k (some_number w.ahead.number some)) ∙ given_clean given in
    (all, (count ∙ sym (ap length (rows_is r)), verdict_is r))

failed_by_read : {S : Type 0} (w : Wrapped S) (taken : Option (List ℕ)) (faults : ℕ) (given : List (List Value)) → 1 ≤ faults → w.ahead.framed.ended ≡ false → w.kept ≡ [] → HoldsNothing w.ahead
    → w.accepted ≡ length given → IfSome taken (λ bytes. Continues w bytes given) → FailedByRead w.ahead.columns taken faults w.accepted fault.Read
failed_by_read w None faults given some unended k nothing count h = (refl, some, tt)
failed_by_read w (Some bytes) faults given some unended k nothing count h =
    let r = now_read w bytes given false h (λ t. absurd (let clash : false ≡ true = sym unended ∙ t in cc)) ∙ ap (rows_then given) (none_left w.ahead w.kept false nothing unended k refl) ∙ given_clean given in
    (refl, some, count ∙ sym (ap length (rows_is r)))

failed_by_bytes : {S : Type 0} (w : Wrapped S) (taken whole : Option (List ℕ)) (given : List (List Value)) (why : MemberFault) → (w.ahead.framed.ended ≡ true → IsWhole taken whole) → w.ahead.rows ≡ [] → w.ahead.bad ≡ Some why → IfSome w.ahead.bad IsOfBytes
    → w.accepted ≡ length given → IfSome taken (λ bytes. Continues w bytes given) → FailedByBytes w.ahead.columns taken whole w.accepted why
failed_by_bytes w None whole given why all rows bad of count h = (of_bytes w.ahead.bad why bad of, tt)
failed_by_bytes w (Some bytes) whole given why all rows bad of count h =
    let e = is_all whole bytes in
    let left : future w.ahead (w.kept ++ []) e ≡ failed_reading why = rw (rows, bad) refl in
    let r = now_read w bytes given e h (λ t. all_itself whole bytes (all t)) ∙ ap (rows_then given) left ∙ given_bad given why in
    (of_bytes w.ahead.bad why bad of, (count ∙ sym (ap length (rows_is r)), verdict_is r))

pub sound_active : {S M : Type 0} (source : Source S M) (w : Wrapped S) → IsWrapped source w → SoundAs source w state.Active None
sound_active source w is given h = sound_so_far w (source.taken w.source) (source.whole w.source) given is.whole h.0 h.1

pub sound_ended : {S M : Type 0} (source : Source S M) (w : Wrapped S) → IsWrapped source w → w.ahead.framed.ended ≡ true → HoldsNothing w.ahead → 0 < w.ahead.number → SoundAs source w state.Ended None
sound_ended source w is told nothing some given h = sound_end w (source.taken w.source) (source.whole w.source) given (is.whole told) told (is.fed told) nothing some h.0 h.1

fault_behind_is : (rows : List (List Value)) (bad : Option MemberFault) (why : MemberFault) → fault_behind rows bad ≡ Some why → (rows ≡ []) × (bad ≡ Some why)
fault_behind_is [] bad why e = (refl, e)
fault_behind_is (row ∷ rows) bad why e = cc

fault_is : {S M : Type 0} (source : Source S M) (w : Wrapped S) (failed : Bool) (why : MemberFault) → w.failed ≡ failed → IsWrapped source w → fault_of w ≡ Some why → SoundAs source w state.Failed (Some why)
fault_is source w true why f is e given h =
    let f' = is.failed f in
    let read : fault.Read ≡ why = let e' : Some fault.Read ≡ Some why = rw f at e in cc in
    let P : MemberFault → Type 0 = λ y. FailedByRead w.ahead.columns (source.taken w.source) (source.faults w.source) w.accepted y in
    inl (subst P read (failed_by_read w (source.taken w.source) (source.faults w.source) given f'.faults f'.unended f'.kept f'.nothing h.0 h.1))
fault_is source w false why f is e given h =
    let bad : (w.ahead.rows ≡ []) × (w.ahead.bad ≡ Some why) = fault_behind_is w.ahead.rows w.ahead.bad why (rw f at e) in
    inr (failed_by_bytes w (source.taken w.source) (source.whole w.source) given why is.whole bad.0 bad.1 is.of_bytes h.0 h.1)

pub sound_failed : {S M : Type 0} (source : Source S M) (w : Wrapped S) (why : MemberFault) → IsWrapped source w → fault_of w ≡ Some why → SoundAs source w state.Failed (Some why)
sound_failed source w why is e = fault_is source w w.failed why refl is e

-- the fault that is answered
pub no_fault : (failed : Bool) (rows : List (List Value)) (bad : Option MemberFault) → failed ≡ false → rows ≡ [] → bad ≡ None → (if failed then Some fault.Read else fault_behind rows bad) ≡ None
no_fault failed rows bad f r b = rw (f, r, b) refl

pub bad_fault : (failed : Bool) (rows : List (List Value)) (bad : Option MemberFault) (why : MemberFault) → failed ≡ false → rows ≡ [] → bad ≡ Some why → (if failed then Some fault.Read else fault_behind rows bad) ≡ Some why
bad_fault failed rows bad why f r b = rw (f, r, b) refl

no_read : (failed : Bool) (rows : List (List Value)) (bad : Option MemberFault) → (bad ≡ Some fault.Read → ⊥) → (if failed then Some fault.Read else fault_behind rows bad) ≡ Some fault.Read → failed ≡ true
no_read true rows bad b e = refl
no_read false [] bad b e = absurd (b e)
no_read false (row ∷ rows) bad b e = absurd (let clash : None ≡ Some fault.Read = e in cc)

none_bad : (failed : Bool) (rows : List (List Value)) (bad : Option MemberFault) → (if failed then Some fault.Read else fault_behind rows bad) ≡ None → (failed ≡ false) × (rows ≡ [] → bad ≡ None)
none_bad true rows bad e = absurd (let clash : Some fault.Read ≡ None = e in cc)
none_bad false rows bad e = (refl, λ r. sym (ap (λ (rs : List (List Value)). fault_behind rs bad) r) ∙ e)

-- no fault was reached, so no pull failed
pub unfailed : {S : Type 0} (w : Wrapped S) → fault_of w ≡ None → w.failed ≡ false
unfailed w e = (none_bad w.failed w.ahead.rows w.ahead.bad e).0

-- a fault that no pull of this call counted
pub later_fault : {S M : Type 0} (source : Source S M) (old new : Wrapped S) (why : MemberFault) → IsWrapped source new → new.failed ≡ old.failed → fault_of new ≡ Some why → IsFault source old new why
later_fault source old new why is same e = record {
  reached = e;
  counted = λ read none.
      let failed : new.failed ≡ true = no_read new.failed new.ahead.rows new.ahead.bad (not_read new.ahead.bad is.of_bytes) (e ∙ ap Some read) in
      absurd (let clash : true ≡ false = sym failed ∙ same ∙ unfailed old none in cc);
  sound = sound_failed source new why is e;
}

accepted_taken : {S : Type 0} (w : Wrapped S) (taken whole : Option (List ℕ)) (given : List (List Value)) → (w.ahead.framed.ended ≡ true → IsWhole taken whole)
    → w.accepted ≡ length given → IfSome taken (λ bytes. Continues w bytes given)
    → IfSome (option_map (λ bytes. take w.accepted (taken_rows w.ahead.columns whole bytes)) taken) (λ rows. rows ≡ given)
accepted_taken w None whole given all count h = tt
accepted_taken w (Some bytes) whole given all count h =
    let e = is_all whole bytes in
    let r = now_read w bytes given e h (λ t. all_itself whole bytes (all t)) in
    let rows = (future w.ahead (w.kept ++ []) e).rows in
    ap (take w.accepted) (rows_is r) ∙ ap (λ (n : ℕ). take n (given ++ rows)) count ∙ take-append_seam given rows

pub accepted_as : {S M : Type 0} (source : Source S M) (w : Wrapped S) → IsWrapped source w → AcceptedAs source w
accepted_as source w is given h = accepted_taken w (source.taken w.source) (source.whole w.source) given is.whole h.0 h.1

-- a pull that failed
pub read_fault : {S M : Type 0} (source : Source S M) (old new : Wrapped S) → IsWrapped source new → new.failed ≡ true → Rose (source.faults old.source) (source.faults new.source) → IsFault source old new fault.Read
read_fault source old new is failed rose =
    let e : fault_of new ≡ Some fault.Read = rw failed refl in
    record { reached = e; counted = λ t f. rose; sound = sound_failed source new fault.Read is e }

-- what came at the end is what the pull answers
pub end_pulled : {S M : Type 0} (source : Source S M) (old new : Wrapped S) (answer : Pulled) → IsWrapped source new → old.failed ≡ false → IsEnd new answer → IsPulled source old new answer
end_pulled source old new pulled.Moved is f end = (inr (end.0, end.1), end.2, is.fed end.0)
end_pulled source old new pulled.Ended is f end = (end.0, end.1, end.2, sound_ended source new is end.0 end.1 end.3, accepted_as source new is)
end_pulled source old new (pulled.Failed why) is f end = later_fault source old new why is (end.1 ∙ sym f) end.0
end_pulled source old new pulled.NotYet is f end = absurd end
end_pulled source old new pulled.NoMemory is f end = absurd end

-- where frames were read ahead and gave neither row nor fault, nothing is held
pub nothing_held : {S : Type 0} (w : Wrapped S) → fault_of w ≡ None → w.ahead.rows ≡ [] → IsReadAhead w.ahead → HoldsNothing w.ahead
nothing_held w e rows read =
    let bad = (none_bad w.failed w.ahead.rows w.ahead.bad e).1 rows in
    record { rows = rows; bad = bad; frames = read rows bad }

-- frames that are read ahead, or looked for, keep what holds of a wrapper
pub wrapped_on : {S M : Type 0} (source : Source S M) (old : Wrapped S) (new : Ahead) → IsWrapped source old → old.failed ≡ false → KeepsFuture old.ahead new → IsWrapped source (record old { ahead = new })
wrapped_on source old new is unfailed keeps = record {
  few = rw keeps.bytes is.few;
  counted = omega (arith, is.counted, keeps.counted);
  fed = λ t. is.fed (sym keeps.ended ∙ t);
  whole = λ t. is.whole (sym keeps.ended ∙ t);
  failed = λ t. absurd (let clash : false ≡ true = sym unfailed ∙ t in cc);
  of_bytes = bad_kept old.ahead new keeps is.of_bytes;
}

-- what came at the end answers the pull that told it
pub end_answers : {S : Type 0} (w : Wrapped S) (result : Pulled) (answer : Pull) → IsEnd w result → TellsEnd answer → AnswersPull answer result
end_answers w pulled.Moved answer is end = inr end
end_answers w pulled.NotYet answer is end = absurd is
end_answers w pulled.Ended answer is end = end
end_answers w (pulled.Failed why) answer is end = inl end
end_answers w pulled.NoMemory answer is end = absurd is

pub end_of_pull : {S M : Type 0} (source : Source S M) (old mid : S) (w : Wrapped S) (kept : List ℕ) (result : Pulled) → w.source ≡ mid
    → ComesOfOnePull source old mid kept came.End → IsEnd w result → AnswersOnePull source old w.source result
end_of_pull {S = S} source old mid w kept result same told is =
    let P = λ (s : S). IsOnePull source old s told.0 told.1 in
    (told.0, told.1, subst P (sym same) told.2, end_answers w result told.0 is told.3)
