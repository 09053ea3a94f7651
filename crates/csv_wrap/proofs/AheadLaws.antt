-- Frames that are read ahead: what is still to be given stays.
use Rattle.std.proofs.Common.{◌≡◌, ◌+◌, ◌≤◌, ℕ, Bool, List, [], ◌∷◌, ◌++◌, length, drop, Option, Some, None, arith, refl, sym, ap, ◌∙◌, length-drop, append-nil, subst, ◌&&◌, ◌==◌, true, false, if◌then◌else◌}
use Rattle.med_base.specs.declared.member.MemberFault.{MemberFault}
use Rattle.med_base.specs.declared.member.MemberFault.TheVariants as fault
use Rattle.tuple_core.specs.declared.columns.Column.{Column}
use Rattle.tuple_core.specs.declared.value.Value.{Value}
use Rattle.csv_frame.specs.Frames.{GoesOn, frames, frames_of}
use Rattle.csv_frame.specs.Holding.{GivesFrames, Held, HoldsNone, IsAtHand, IsTooLong, span_bytes}
use Rattle.csv_frame.specs.declared.find.Span.{Span}
use Rattle.csv_frame.proofs.PieceLaws.{frames_are}
use Rattle.csv_wrap.specs.Rows.{frame_read, frame_reads, rows_before_fault}
use Rattle.csv_wrap.specs.Readings.{Reading, rows_then, read_frames, read_then, reading_of}
use Rattle.csv_wrap.proofs.RowLaws.{fill_both, reads_step, rows_fill}
use Rattle.csv_wrap.specs.Ahead.{Ahead, FillColumns, KeepsFuture, ReadsFrames, unless_bad, HoldsNothing, future}
use Rattle.csv_wrap.specs.declared.frame_rows.FrameRead.{FrameRead}
use Rattle.csv_wrap.specs.declared.frame_rows.FrameRead.TheVariants as read

none_bad : (bad : Option MemberFault) (number : ℕ) (columns : List Column) → (unless_bad bad (read_frames number columns [] false)).rows ≡ []
none_bad None number columns = refl
none_bad (Some why) number columns = refl

-- rows that were read of frames have a value for each column
pub reads_fill : (read : List (Option (List ℕ))) (columns : List Column) (old rows : List (List Value)) (number next : ℕ) (bad : Option MemberFault)
    → ReadsFrames columns read old number rows bad next → FillColumns columns old → FillColumns columns rows
reads_fill read columns old rows number next bad reads fills =
    let found = rows_before_fault (frame_reads columns number (read ++ []) false) in
    let same : old ++ found ≡ rows ++ (unless_bad bad (read_frames next columns [] false)).rows = ap (λ (r : Reading). r.rows) (reads [] false) in
    let is : old ++ found ≡ rows = same ∙ ap (λ (rs : List (List Value)). rows ++ rs) (none_bad bad next columns) ∙ append-nil rows in
    let P : List (List Value) → Type 0 = λ rs. FillColumns columns rs in
    subst P is (fill_both columns old found fills (rows_fill columns number (read ++ []) false))

-- so many bytes are read, which are these frames
pub frames_kept : (read : List (Option (List ℕ))) (old new : Ahead) (count : ℕ)
    → ReadsFrames old.columns read old.rows old.number new.rows new.bad new.number
    → ((more : List ℕ) (ended : Bool) → GoesOn old.framed.ended more ended → frames (old.framed.rest ++ more) ended ≡ read ++ frames (drop count old.framed.rest ++ more) ended)
    → old.bad ≡ None → new.columns ≡ old.columns → count ≤ length old.framed.rest → length new.rows + old.number ≤ length old.rows + new.number
    → new.framed.rest ≡ drop count old.framed.rest → new.framed.at ≡ old.framed.at + count → new.framed.ended ≡ old.framed.ended
    → KeepsFuture old new
frames_kept read old new count reads splits good same inside counted rest at told = record {
  columns = same;
  ended = told;
  bytes = rw (rest, at) (omega (arith, length-drop count old.framed.rest));
  counted = counted;
  wide = λ h. subst (λ (cs : List Column). FillColumns cs new.rows) (sym same) (reads_fill read old.columns old.rows new.rows old.number new.number new.bad reads h);
  same = λ more ended goes.
      ap (λ (b : Option MemberFault). rows_then old.rows (unless_bad b (read_frames old.number old.columns (frames (old.framed.rest ++ more) ended) ended))) good
      ∙ ap (λ (fs : List (Option (List ℕ))). rows_then old.rows (read_frames old.number old.columns fs ended)) (splits more ended goes)
      ∙ reads (frames (drop count old.framed.rest ++ more) ended) ended
      ∙ ap (λ (cs : List Column). rows_then new.rows (unless_bad new.bad (read_frames new.number cs (frames (drop count old.framed.rest ++ more) ended) ended))) (sym same)
      ∙ ap (λ (bs : List ℕ). rows_then new.rows (unless_bad new.bad (read_frames new.number new.columns (frames (bs ++ more) ended) ended))) (sym rest);
}

-- rows that are as before
pub rows_kept : (old : Ahead) (rows : List (List Value)) → rows ≡ old.rows → KeepsFuture old (record old { rows = rows })
rows_kept old rows e = record {
  columns = refl;
  ended = refl;
  bytes = refl;
  counted = rw e (omega arith);
  wide = λ h. subst (λ (rs : List (List Value)). FillColumns old.columns rs) (sym e) h;
  same = λ more ended goes. ap (λ (rs : List (List Value)). rows_then rs (unless_bad old.bad (read_frames old.number old.columns (frames (old.framed.rest ++ more) ended) ended))) (sym e);
}

pub frames_none : (ended : Bool) → frames [] ended ≡ []
frames_none true = frames_are [] true
frames_none false = frames_are [] false

-- a frame at hand, or one that is too long, is held
pub hand_held : (held : Held) (span : Span) (count : ℕ) → IsAtHand held span count → HoldsNone held → ⊥
hand_held held span count hand none =
    let first = ap (λ (bs : List ℕ). frames bs held.ended) (sym (append-nil held.rest)) ∙ hand.first [] held.ended (λ t. (refl, t)) in
    let clash : [] ≡ Some (span_bytes held span) ∷ frames (drop count held.rest ++ []) held.ended = sym none ∙ first in cc

pub long_held : (held : Held) → IsTooLong held.rest → HoldsNone held → ⊥
long_held held long none =
    let first = ap (λ (bs : List ℕ). frames bs held.ended) (sym (append-nil held.rest)) ∙ ap frames_of (long.1 [] held.ended) in
    let clash : [] ≡ None ∷ [] = sym none ∙ first in cc

-- what was passed leaves nothing held where nothing was
pub none_stays : (old new : Held) → GivesFrames old [] new → new.ended ≡ old.ended → HoldsNone old → HoldsNone new
none_stays old new gives ended none =
    let same : frames (old.rest ++ []) old.ended ≡ frames (new.rest ++ []) old.ended = gives [] old.ended (λ t. (refl, t)) in
    rw ended (ap (λ (bs : List ℕ). frames bs old.ended) (sym (append-nil new.rest)) ∙ sym same ∙ ap (λ (bs : List ℕ). frames bs old.ended) (append-nil old.rest) ∙ none)

-- what one frame gave
pub frame_put : (columns : List Column) (frame : List ℕ) (old rows : List (List Value)) (number : ℕ) (read : FrameRead) (bad : Option MemberFault)
    → read ≡ frame_read columns number (Some frame)
    → ((more : Reading) → rows_then old (read_then read more) ≡ rows_then rows (unless_bad bad more))
    → ReadsFrames columns (Some frame ∷ []) old number rows bad (number + 1)
frame_put columns frame old rows number read bad is put later ended =
    ap (rows_then old) (reads_step number columns (Some frame) later ended read is) ∙ put (read_frames (number + 1) columns later ended)

-- one step after the other
pub kept_on : (old mid new : Ahead) → KeepsFuture old mid → KeepsFuture mid new → KeepsFuture old new
kept_on old mid new a b = record {
  columns = b.columns ∙ a.columns;
  ended = b.ended ∙ a.ended;
  bytes = b.bytes ∙ a.bytes;
  counted = omega (arith, a.counted, b.counted);
  wide = λ h. b.wide (a.wide h);
  same = λ more ended goes. a.same more ended goes ∙ b.same more ended (λ t. goes (sym a.ended ∙ t));
}

no_rows : (n : ℕ) (columns : List Column) (ended : Bool) → (read_frames n columns [] ended).rows ≡ []
no_rows n columns ended =
    elim (ended && (n == 0)) as (λ (b : Bool). (reading_of (if b then read.Bad (fault.Header 0) ∷ [] else [])).rows ≡ []) [ true ↦ refl | false ↦ refl ]

front_none : (front rest : List (List Value)) → front ++ rest ≡ [] → front ≡ []
front_none [] rest e = refl
front_none (row ∷ front) rest e = cc

-- where nothing is held no row is read
pub none_read : (old new : Ahead) → KeepsFuture old new → HoldsNothing old → new.rows ≡ []
none_read old new keeps h =
    let ended = old.framed.ended in
    let none : frames (old.framed.rest ++ []) ended ≡ [] = ap (λ (bs : List ℕ). frames bs ended) (append-nil old.framed.rest) ∙ h.frames in
    let was : (future old [] ended).rows ≡ [] =
    ap (λ (rs : List (List Value)). (rows_then rs (unless_bad old.bad (read_frames old.number old.columns (frames (old.framed.rest ++ []) ended) ended))).rows) h.rows
    ∙ ap (λ (b : Option MemberFault). (unless_bad b (read_frames old.number old.columns (frames (old.framed.rest ++ []) ended) ended)).rows) h.bad
    ∙ ap (λ (fs : List (Option (List ℕ))). (read_frames old.number old.columns fs ended).rows) none ∙ no_rows old.number old.columns ended in
    let is = sym (ap (λ (r : Reading). r.rows) (keeps.same [] ended (λ t. (refl, t)))) ∙ was in
    front_none new.rows (unless_bad new.bad (read_frames new.number new.columns (frames (new.framed.rest ++ []) ended) ended)).rows is
