-- Rows in order, each once.
use Rattle.std.specs.Prelude.{Contains}
use Rattle.std.specs.List.Sorted.{IsStrictlySortedBy}
use Rattle.tuple_core.specs.Values.{RowList, RowValues, row_cmp}

-- the distinct rows of a list, in their order
pub record AreSortedDistinct (rows sorted : RowList) : Type 0 where
  pub ascending : IsStrictlySortedBy row_cmp sorted
  pub keeps : (row : RowValues) → Contains rows row → Contains sorted row
  pub adds_none : (row : RowValues) → Contains sorted row → Contains rows row
