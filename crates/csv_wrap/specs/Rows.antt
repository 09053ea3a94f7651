-- What each frame of a source is, and the rows and the verdict of a source.
use Rattle.std.specs.Prelude.{ℕ, suc, ◌==◌, ◌+◌, ◌&&◌, Bool, List, [], ◌∷◌, length, Option, Some, None, Result, Ok, Err, if◌then◌else◌}
use Rattle.std.specs.List.{zip}
use Rattle.std.specs.Cmp.Lexicographic.{pointwise}
use Rattle.std.specs.Prelude.{nat_eq}
use Rattle.med_base.specs.declared.member.MemberFault.{MemberFault}
use Rattle.med_base.specs.declared.member.MemberFault.TheVariants as fault
use Rattle.med_prelude.specs.Reading.{or_at, read_each}
use Rattle.med_prelude.specs.Texts.{Bytes}
use Rattle.tuple_core.specs.declared.columns.Column.{Column}
use Rattle.tuple_core.specs.Parsing.{field_value}
use Rattle.tuple_core.specs.Values.{RowList, RowValues}
use Rattle.csv_frame.specs.Frames.{frames}
use Rattle.csv_runs.specs.Records.{good_record}
use Rattle.csv_wrap.specs.declared.frame_rows.FrameRead.{FrameRead}
use Rattle.csv_wrap.specs.declared.frame_rows.FrameRead.TheVariants as read

-- how many leading fields are the columns' names
abbrev pub named_count : List Column → List Bytes → ℕ
named_count [] fields = 0
named_count (column ∷ columns) [] = 0
named_count (column ∷ columns) (field ∷ fields) = if pointwise nat_eq column.name field then suc (named_count columns fields) else 0

-- the header is the list of the columns' names
abbrev pub is_header : List Column → List Bytes → Bool
is_header columns fields = (named_count columns fields == length columns) && (length fields == length columns)

-- each field's value, or the first column, counted from a position on, whose field has none
abbrev pub values_from : ℕ → List Column → List Bytes → Result RowValues ℕ
values_from from columns fields = read_each (λ position (pair : Column × Bytes). or_at position (field_value pair.0 pair.1)) from (zip columns fields)

abbrev pub values_of : List Column → List Bytes → Result RowValues ℕ
values_of = values_from 0

-- frame k is the row of these values, or has a bad field
abbrev pub values_read : ℕ → Result RowValues ℕ → FrameRead
values_read k (Ok row) = read.Row row
values_read k (Err column) = read.Bad (fault.BadField k column)

-- What frame k is by its record, if it has a good one: the first is the header, and each other one a row.
abbrev pub record_read : List Column → ℕ → Option (List Bytes) → FrameRead
record_read columns k None = read.Bad (if k == 0 then fault.Header 0 else fault.BadRecord k)
record_read columns k (Some fields) =
    if k == 0 then (if is_header columns fields then read.Header else read.Bad (fault.Header (named_count columns fields)))
    else if length fields == length columns then values_read k (values_of columns fields)
    else read.Bad (fault.BadRecord k)

-- what frame k is: the header, a row, or a fault; None is a frame that is too long
abbrev pub frame_read : List Column → ℕ → Option Bytes → FrameRead
frame_read columns k None = read.Bad (fault.TooLong k)
frame_read columns k (Some frame) = record_read columns k (good_record frame)

-- what the frames from number k on are; a text that has ended without a frame lacks its header
abbrev pub frame_reads : List Column → ℕ → List (Option Bytes) → Bool → List FrameRead
frame_reads columns k [] ended = if ended && (k == 0) then read.Bad (fault.Header 0) ∷ [] else []
frame_reads columns k (frame ∷ more) ended = frame_read columns k frame ∷ frame_reads columns (k + 1) more ended

-- the rows before the first fault
abbrev pub rows_before_fault : List FrameRead → RowList
rows_before_fault [] = []
rows_before_fault (read.Header ∷ more) = rows_before_fault more
rows_before_fault (read.Row row ∷ more) = row ∷ rows_before_fault more
rows_before_fault (read.Bad why ∷ more) = []

abbrev pub first_fault : List FrameRead → Option MemberFault
first_fault [] = None
first_fault (read.Header ∷ more) = first_fault more
first_fault (read.Row row ∷ more) = first_fault more
first_fault (read.Bad why ∷ more) = Some why

-- the rows of a source's bytes, and their verdict: None is a clean one
abbrev pub source_rows : List Column → Bytes → Bool → RowList
source_rows columns bytes ended = rows_before_fault (frame_reads columns 0 (frames bytes ended) ended)

abbrev pub source_verdict : List Column → Bytes → Bool → Option MemberFault
source_verdict columns bytes ended = first_fault (frame_reads columns 0 (frames bytes ended) ended)
