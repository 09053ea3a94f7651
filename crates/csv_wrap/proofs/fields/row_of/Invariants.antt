use Rattle.std.proofs.Common.{◌≡◌, vec_len, drop}
use Rattle.std.specs.List.{AllByRecursion}
use Rattle.csv.specs.Records.{fields_of}
use Rattle.med_prelude.specs.Reading.{with_front}
use Rattle.tuple_core.specs.Values.{FitsValue}
use Rattle.csv_wrap.specs.Rows.{values_from, values_of}
use Rattle.csv_wrap.proofs.fields.row_of.Given as goal

-- the values so far stand before those of the fields that are left
abbrev pub invariant-loop-position : goal.invariant-loop-position
invariant-loop-position l = record {
  same : with_front l.values.items (values_from l.position (drop l.position l.columns) (drop l.position (fields_of l.fields))) ≡ values_of l.columns (fields_of l.fields);
  count : vec_len l.values ≡ l.position;
  fit : AllByRecursion FitsValue l.values.items;
}
