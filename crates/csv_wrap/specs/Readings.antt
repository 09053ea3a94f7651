-- Rows with a verdict: what frames give, one after the other.
use Rattle.std.specs.Prelude.{ℕ, Bool, List, [], ◌∷◌, ◌++◌, Option, Some, None}
use Rattle.med_base.specs.declared.member.MemberFault.{MemberFault}
use Rattle.med_prelude.specs.Texts.{Bytes}
use Rattle.tuple_core.specs.declared.columns.Column.{Column}
use Rattle.tuple_core.specs.Values.{RowList}
use Rattle.csv_wrap.specs.declared.frame_rows.FrameRead.{FrameRead}
use Rattle.csv_wrap.specs.declared.frame_rows.FrameRead.TheVariants as read
use Rattle.csv_wrap.specs.declared.reading.SourceRows.{SourceRows}
use Rattle.csv_wrap.specs.Rows.{first_fault, frame_reads, rows_before_fault, source_rows, source_verdict}

pub record Reading : Type 0 where
  pub rows : RowList
  pub verdict : Option MemberFault

-- what frames give together
abbrev pub reading_of : List FrameRead → Reading
reading_of reads = record { rows = rows_before_fault reads; verdict = first_fault reads }

-- what frames from number k on give, and what a source's bytes do
abbrev pub read_frames : ℕ → List Column → List (Option Bytes) → Bool → Reading
read_frames k columns left ended = reading_of (frame_reads columns k left ended)

abbrev pub source_reading : List Column → Bytes → Bool → Reading
source_reading columns bytes ended = record { rows = source_rows columns bytes ended; verdict = source_verdict columns bytes ended }

abbrev pub clean_reading : Reading
clean_reading = record { rows = []; verdict = None }

abbrev pub failed_reading : MemberFault → Reading
failed_reading why = record { rows = []; verdict = Some why }

-- rows, and what comes after them
abbrev pub rows_then : RowList → Reading → Reading
rows_then rows more = record { rows = rows ++ more.rows; verdict = more.verdict }

-- what one frame gave, and what comes after it
abbrev pub read_then : FrameRead → Reading → Reading
read_then read.Header more = more
read_then (read.Row row) more = rows_then (row ∷ []) more
read_then (read.Bad why) more = failed_reading why

-- what was read of a whole text
abbrev pub whole_reading : SourceRows → Reading
whole_reading read = record { rows = read.rows.items; verdict = read.verdict }
