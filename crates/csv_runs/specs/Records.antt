-- The record of a frame.
use Rattle.std.specs.Prelude.{List, [], Option, Some, None, is_none, if◌then◌else◌}
use Rattle.csv.specs.Machine.{Read, next_record}
use Rattle.csv.specs.Reading.{default_config, strip_bom}
use Rattle.med_prelude.specs.Texts.{Bytes}
use Rattle.csv_frame.specs.Frames.{has_even_quotes}
use Rattle.csv.specs.declared.parser.State.TheVariants as state

-- the fields of a record that was read, where no other comes after it
abbrev pub only_record : Option Read → Option (List Bytes)
only_record None = None
only_record (Some read) = if is_none (next_record default_config read.1 [] [] read.2) then Some read.0 else None

-- the one record of a frame's bytes alone, as the default reader of CSV reads it
abbrev pub record_in : Bytes → Option (List Bytes)
record_in frame = only_record (next_record default_config state.StartRecord [] [] (strip_bom frame))

abbrev pub good_record : Bytes → Option (List Bytes)
good_record frame = if has_even_quotes frame then record_in frame else None
