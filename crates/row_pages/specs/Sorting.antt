-- The index by which rows are sorted where they lie.
use Rattle.std.specs.Prelude.{◌≡◌, ℕ, ◌<◌, ◌==◌, ◌&&◌, Bool, [], length, slice_index_or, refl, Some}
use Rattle.std.specs.Cmp.{IsEquivalence, IsPartialOrder, IsTotalOrder, and_equiv, both_tied, nat_cmp_total, nat_eq_equiv, on_equiv, on_total, partial_order_from_agreeing_total, then_total, unsigned_ties}
use Rattle.std.specs.Ordering.{eq_by_cmp, nat_cmp, ordering_then}
use Rattle.std.specs.declared.cmp.Ordering.{Ordering}
use Rattle.row_pages.specs.declared.sorting.Entry.{Entry}
use Rattle.tuple_core.specs.Order.{row_eq, rows_equiv, rows_tie, rows_total}
use Rattle.tuple_core.specs.Ranks.{cut_row, row_rank}
use Rattle.tuple_core.specs.Values.{FitsRow, RowList, row_cmp}

-- entries compare by their ranks, and by their rows where the ranks are equal
abbrev pub entry_cmp : Entry → Entry → Ordering
entry_cmp x y = ordering_then (nat_cmp x.rank y.rank) (row_cmp x.row y.row)

abbrev pub entry_eq : Entry → Entry → Bool
entry_eq x y = (x.rank == y.rank) && row_eq x.row y.row

pub entries_total : IsTotalOrder entry_cmp
entries_total = then_total (on_total (λ (e : Entry). e.rank) nat_cmp_total) (on_total (λ (e : Entry). e.row) rows_total)

pub entries_equiv : IsEquivalence entry_eq
entries_equiv = and_equiv (on_equiv (λ (e : Entry). e.rank) nat_eq_equiv) (on_equiv (λ (e : Entry). e.row) rows_equiv)

pub entries_tie : (x y : Entry) → entry_eq x y ≡ eq_by_cmp entry_cmp x y
entries_tie x y = both_tied (x.rank == y.rank) (row_eq x.row y.row) (nat_cmp x.rank y.rank) (row_cmp x.row y.row) (unsigned_ties x.rank y.rank) (rows_tie x.row y.row)

pub entries_po : IsPartialOrder entry_eq (λ x y. Some (entry_cmp x y))
entries_po = partial_order_from_agreeing_total entry_cmp entries_total (λ x y. refl) entries_tie

-- the entry of a row of the list, ranked without so many first bytes
pub record IsEntry (skip : ℕ) (rows : RowList) (entry : Entry) : Type 0 where
  pub inside : entry.index < length rows
  pub row : slice_index_or rows entry.index [] ≡ entry.row
  pub fits : FitsRow entry.row
  pub rank : entry.rank ≡ row_rank (cut_row skip entry.row) 128
