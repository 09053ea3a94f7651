-- The text of rows: a line of CSV for each, as a writer writes it by default.
use Rattle.std.specs.Prelude.{map}
use Rattle.std.specs.List.{flat_map}
use Rattle.csv.specs.Writing.{default_writer, row_text}
use Rattle.med_prelude.specs.Texts.{Bytes}
use Rattle.tuple_core.specs.Values.{RowList, RowValues, value_text}

-- quotes where they are needed, commas, and a line feed
abbrev pub line_of : RowValues → Bytes
line_of row = row_text default_writer (map value_text row)

-- the lines one after another
abbrev pub rows_text : RowList → Bytes
rows_text rows = flat_map line_of rows
