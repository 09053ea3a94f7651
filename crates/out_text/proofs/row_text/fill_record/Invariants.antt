use Rattle.std.proofs.Common.{◌≡◌, ◌++◌, map, []}
use Rattle.csv.specs.Records.{fields_of, partial_of}
use Rattle.tuple_core.specs.Values.{value_text}
use Rattle.out_text.proofs.row_text.fill_record.Given as goal

abbrev pub invariant-loop-value : goal.invariant-loop-value
invariant-loop-value l = record {
  fields : fields_of l.fields ++ map value_text l.value-iterator ≡ map value_text l.row;
  partial : partial_of l.fields ≡ [];
}
