-- Entries: rows with two numbers each.
use Rattle.std.specs.Prelude.{ℕ, List, [], ◌∷◌}
use Rattle.tuple_core.specs.Values.{RowList, RowValues}
use Rattle.spill_blocks.specs.declared.entries.Kept.{Kept}
use Rattle.spill_blocks.specs.declared.entries.Numbers.{Numbers}

abbrev pub kept_as : ℕ → ℕ → RowValues → Kept
kept_as a d row = record { a = a; d = d; row = row }

-- a row that a spool keeps has no numbers
abbrev pub spooled : RowValues → Kept
spooled row = kept_as 0 0 row

abbrev pub row_kept : Kept → RowValues
row_kept kept = kept.row

-- the rows with their numbers, in order
abbrev pub kept_list : List Numbers → RowList → List Kept
kept_list [] rows = []
kept_list (n ∷ numbers) [] = []
kept_list (n ∷ numbers) (row ∷ rows) = kept_as n.a n.d row ∷ kept_list numbers rows
