use Rattle.std.proofs.Common.{◌≡◌, ◌++◌, [], length}
use Rattle.std.specs.Vec.Iter.{into_iter_items, into_iter_len}
use Rattle.row_match.specs.Prepared.{prepared_columns, variables_after}
use Rattle.row_match.proofs.pattern.Pattern.new.Given as goal

abbrev pub invariant-terms : goal.invariant-terms
invariant-terms l = record {
  items : l.yielded ++ into_iter_items l.term-iterator ≡ into_iter_items l.initial.term-iterator;
  len : into_iter_len l.term-iterator ≡ length (into_iter_items l.term-iterator);
  columns : l.columns.items ≡ prepared_columns [] l.yielded;
  variables : l.variables.items ≡ variables_after [] l.yielded;
}
