-- What a spool holds, and what its calls answer. Contracts see a spool as its file of blocks.
use Rattle.std.specs.Prelude.{◌≡◌, ⊤, ℕ, ◌+◌, ◌-◌, ◌<◌, ◌≤◌, min, All, List, [], ◌∷◌, ◌++◌, length, take, drop, map, Option, IfSome, option_map}
use Rattle.std.specs.List.{flat_map, sum_by}
use Rattle.med_base.specs.Spills.{file_length}
use Rattle.med_prelude.specs.Counts.{Rose}
use Rattle.tuple_core.specs.Values.{RowList}
use Rattle.spill_blocks.specs.Blocks.{AreWide, BlockShape, BlockState, FindsOther, PutsBlock, TellsShapes}
use Rattle.spill_blocks.specs.Entries.{row_kept, spooled}
use Rattle.spill_blocks.specs.declared.entries.Kept.{Kept}
use Rattle.spill_blocks.specs.declared.fault.BlockFault.{BlockFault}
use Rattle.spill_blocks.specs.declared.fault.BlockFault.TheVariants.{SpillFault, SpillFull, Differs, NoMemory}
use Rattle.spill_blocks.specs.declared.form.EntryForm.TheVariants.{Spool}
use Rattle.frag_store.specs.declared.spool.Cursor.{Cursor}

-- the entries of blocks, one block after another
abbrev pub all_entries : List (List Kept) → List Kept
all_entries blocks = flat_map (λ entries. entries) blocks

-- the rows of a spool, where its file tells its content
abbrev pub spooled_rows : BlockState → Option RowList
spooled_rows s = option_map (λ blocks. map row_kept (all_entries blocks)) s.told

abbrev pub shape_count : BlockShape → ℕ
shape_count shape = shape.count

abbrev pub count_of : List BlockShape → ℕ
count_of shapes = sum_by shape_count shapes

-- how many rows were appended
abbrev pub spooled_count : BlockState → ℕ
spooled_count s = count_of s.shapes

-- all rows that were appended have so many values
abbrev pub IsSpoolWide : ℕ → BlockState → Type 0
IsSpoolWide width s = All (λ shape. shape.width ≡ width) s.shapes

-- the rows are one block more; no rows are none
abbrev pub PutsRows : BlockState → RowList → BlockState → Type 0
PutsRows old [] new = new ≡ old
PutsRows old (row ∷ rows) new = PutsBlock old (map spooled (row ∷ rows)) (length old.shapes) new

-- The rows from a position on, over all that were appended: so many or all that are left, and where the file tells its content those that were appended.
pub record ScansRows (s : BlockState) (from room : ℕ) (rows : RowList) : Type 0 where
  pub count : length rows ≡ min room (spooled_count s - from)
  pub wide : (width : ℕ) → IsSpoolWide width s → All (λ row. length row ≡ width) rows
  pub told : IfSome (spooled_rows s) (λ all. rows ≡ take room (drop from all))

-- some entries from a position on, and none from another position on
pub record GivesPart (s : BlockState) (position stop : ℕ) (given : List Kept) : Type 0 where
  pub some : 0 < length given
  pub within : position + length given ≤ stop
  pub wide : (width : ℕ) → IsSpoolWide width s → AreWide width given
  pub told : IfSome s.told (λ blocks. given ≡ take (length given) (drop position (all_entries blocks)))

-- they came behind others
abbrev pub ScansPart : BlockState → ℕ → ℕ → List Kept → List Kept → Type 0
ScansPart s position stop old new = (given : List Kept) × (new ≡ old ++ given) × GivesPart s position stop given

-- some block has another number of rows than it was put with
abbrev pub FindsOtherBlock : BlockState → ℕ → ℕ → Type 0
FindsOtherBlock s kept found = (block : ℕ) × (block < length s.shapes) × FindsOther s block kept found

-- what an answer without rows says: a read failed, or a block has another number of rows now
abbrev pub RefusesScan : BlockState → BlockFault → BlockState → Type 0
RefusesScan old SpillFault new = Rose old.file.faults new.file.faults
RefusesScan old (SpillFull need limit) new = ⊥
RefusesScan old (Differs kept found) new = FindsOtherBlock old kept found
RefusesScan old NoMemory new = ⊤

-- the cursor is at a block, or behind all, and knows how many rows are before it
pub record IsCursor (shapes : List BlockShape) (cursor : Cursor) : Type 0 where
  pub inside : cursor.block ≤ length shapes
  pub before : cursor.before ≡ count_of (take cursor.block shapes)

pub record IsSpool (s : BlockState) (rows : ℕ) (cursor : Cursor) : Type 0 where
  pub formed : s.form ≡ Spool
  pub counted : rows ≡ spooled_count s
  pub few : spooled_count s ≤ file_length s.file
  pub shapes_told : TellsShapes s
  pub cursor_is : IsCursor s.shapes cursor
