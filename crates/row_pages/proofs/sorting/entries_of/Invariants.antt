use Rattle.std.proofs.Common.{◌≡◌, map, take, All}
use Rattle.row_pages.specs.Sorting.{IsEntry}
use Rattle.row_pages.specs.declared.sorting.Entry.{Entry}
use Rattle.row_pages.proofs.sorting.entries_of.Given as goal

abbrev pub invariant-loop-index : goal.invariant-loop-index
invariant-loop-index l = record {
  rows : map (λ (e : Entry). e.row) l.entries.items ≡ take l.index l.rows;
  each : All (IsEntry l.skip l.rows) l.entries.items;
}
