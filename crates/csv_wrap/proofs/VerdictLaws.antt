-- No bytes read as the failure of an opening or of a pull.
use Rattle.std.proofs.Common.{◌≡◌, ◌+◌, ◌==◌, ◌&&◌, ℕ, Bool, true, false, List, [], ◌∷◌, ◌++◌, length, Option, Some, None, IfSome, Result, Ok, Err, refl, ap, subst, if◌then◌else◌}
use Rattle.med_base.specs.declared.member.MemberFault.{MemberFault}
use Rattle.med_base.specs.declared.member.MemberFault.TheVariants as fault
use Rattle.tuple_core.specs.declared.columns.Column.{Column}
use Rattle.tuple_core.specs.declared.value.Value.{Value}
use Rattle.csv_frame.specs.Frames.{frames}
use Rattle.csv_runs.specs.Records.{good_record}
use Rattle.csv_wrap.specs.Rows.{first_fault, frame_read, frame_reads, is_header, named_count, record_read, values_of, values_read}
use Rattle.csv_wrap.specs.Readings.{Reading, read_frames}
use Rattle.csv_wrap.specs.Ahead.{Ahead, KeepsFuture, unless_bad}
use Rattle.csv_wrap.specs.Sound.{IsOfBytes}
use Rattle.csv_wrap.specs.declared.frame_rows.FrameRead.{FrameRead}
use Rattle.csv_wrap.specs.declared.frame_rows.FrameRead.TheVariants as read

-- a fault that a frame reads as stands in its bytes
abbrev ReadsBytes : FrameRead → Type 0
ReadsBytes read.Header = Unit {0}
ReadsBytes (read.Row row) = Unit {0}
ReadsBytes (read.Bad why) = IsOfBytes why

values_bytes : (k : ℕ) (values : Result (List Value) ℕ) → ReadsBytes (values_read k values)
values_bytes k (Ok row) = tt
values_bytes k (Err column) = tt

record_bytes : (columns : List Column) (k : ℕ) (found : Option (List (List ℕ))) → ReadsBytes (record_read columns k found)
record_bytes columns k None = elim (k == 0) as (λ (b : Bool). ReadsBytes (read.Bad (if b then fault.Header 0 else fault.BadRecord k))) [ true ↦ tt | false ↦ tt ]
record_bytes columns k (Some fields) =
    elim (k == 0) as (λ (b : Bool). ReadsBytes (if b then (if is_header columns fields then read.Header else read.Bad (fault.Header (named_count columns fields)))
    else if length fields == length columns then values_read k (values_of columns fields) else read.Bad (fault.BadRecord k))) [
      | true ↦ elim (is_header columns fields) as (λ (b : Bool). ReadsBytes (if b then read.Header else read.Bad (fault.Header (named_count columns fields)))) [ true ↦ tt | false ↦ tt ]
      | false ↦ elim (length fields == length columns) as (λ (b : Bool). ReadsBytes (if b then values_read k (values_of columns fields) else read.Bad (fault.BadRecord k))) [
        | true ↦ values_bytes k (values_of columns fields)
        | false ↦ tt
      ]
    ]

frame_bytes : (columns : List Column) (k : ℕ) (frame : Option (List ℕ)) → ReadsBytes (frame_read columns k frame)
frame_bytes columns k None = tt
frame_bytes columns k (Some frame) = record_bytes columns k (good_record frame)

first_bytes : (first : FrameRead) (later : List FrameRead) → ReadsBytes first → IfSome (first_fault later) IsOfBytes → IfSome (first_fault (first ∷ later)) IsOfBytes
first_bytes read.Header later is more = more
first_bytes (read.Row row) later is more = more
first_bytes (read.Bad why) later is more = is

frames_bytes : (columns : List Column) (k : ℕ) (left : List (Option (List ℕ))) (ended : Bool) → IfSome (first_fault (frame_reads columns k left ended)) IsOfBytes
frames_bytes columns k [] ended =
    elim (ended && (k == 0)) as (λ (b : Bool). IfSome (first_fault (if b then read.Bad (fault.Header 0) ∷ [] else [])) IsOfBytes) [ true ↦ tt | false ↦ tt ]
frames_bytes columns k (frame ∷ left) ended = first_bytes (frame_read columns k frame) (frame_reads columns (k + 1) left ended) (frame_bytes columns k frame) (frames_bytes columns (k + 1) left ended)

unless_bytes : (bad : Option MemberFault) (more : Reading) → IfSome bad IsOfBytes → IfSome more.verdict IsOfBytes → IfSome (unless_bad bad more).verdict IsOfBytes
unless_bytes None more b h = h
unless_bytes (Some why) more b h = b

bytes_of : (bad : Option MemberFault) (more : Reading) → IfSome (unless_bad bad more).verdict IsOfBytes → IfSome bad IsOfBytes
bytes_of None more h = tt
bytes_of (Some why) more h = h

-- a fault that was reached in the bytes stands in them, whatever was read ahead
pub bad_kept : (old new : Ahead) → KeepsFuture old new → IfSome old.bad IsOfBytes → IfSome new.bad IsOfBytes
bad_kept old new keeps is =
    let ended = old.framed.ended in
    let was = read_frames old.number old.columns (frames (old.framed.rest ++ []) ended) ended in
    let now = read_frames new.number new.columns (frames (new.framed.rest ++ []) ended) ended in
    let same : (unless_bad old.bad was).verdict ≡ (unless_bad new.bad now).verdict = ap (λ (r : Reading). r.verdict) (keeps.same [] ended (λ t. (refl, t))) in
    let P : Option MemberFault → Type 0 = λ v. IfSome v IsOfBytes in
    bytes_of new.bad now (subst P same (unless_bytes old.bad was is (frames_bytes old.columns old.number (frames (old.framed.rest ++ []) ended) ended)))

pub not_read : (bad : Option MemberFault) → IfSome bad IsOfBytes → bad ≡ Some fault.Read → ⊥
not_read bad is e = let P : Option MemberFault → Type 0 = λ v. IfSome v IsOfBytes in subst P e is
