-- What a block is, what a file of blocks holds, and what its calls answer.
use Rattle.std.specs.Prelude.{◌≡◌, ◌≢◌, ⊤, ℕ, ◌+◌, ◌-◌, ◌<◌, ◌≤◌, ◌^◌, min, All, List, [], ◌∷◌, ◌++◌, length, take, drop, map, slice_index_or, Option, None, IfSome, option_map}
use Rattle.std.specs.Int.{w32, w64, to_be_bytes}
use Rattle.std.specs.List.{flat_map}
use Rattle.med_base.specs.Spills.{AppendsBytes, FailsToAppend, FileState, IsFull, KeepsContent, file_content, file_length}
use Rattle.med_prelude.specs.Counts.{Rose}
use Rattle.med_prelude.specs.Texts.{Bytes}
use Rattle.tuple_core.specs.Encoding.{greatest_weight, row_encoding}
use Rattle.tuple_core.specs.Values.{RowList}
use Rattle.spill_blocks.specs.declared.entries.Kept.{Kept}
use Rattle.spill_blocks.specs.declared.fault.BlockFault.{BlockFault}
use Rattle.spill_blocks.specs.declared.fault.BlockFault.TheVariants.{SpillFault, SpillFull, Differs, NoMemory}
use Rattle.spill_blocks.specs.declared.form.EntryForm.{EntryForm}
use Rattle.spill_blocks.specs.declared.form.EntryForm.TheVariants.{Join, Spool}

-- The bytes of an entry: in a join's file its numbers and its row, in a spool's the row alone. The higher bytes of a number come first.
unfoldable pub entry_encoding : EntryForm → Kept → Bytes
entry_encoding Join kept = to_be_bytes w64 kept.a ++ to_be_bytes w64 kept.d ++ row_encoding kept.row
entry_encoding Spool kept = row_encoding kept.row

-- no entry takes more bytes
abbrev pub greatest_entry : ℕ
greatest_entry = 16 + greatest_weight

abbrev pub entries_encoding : EntryForm → List Kept → Bytes
entries_encoding form entries = flat_map (entry_encoding form) entries

-- The bytes of a block: 4 for the number of its entries, 8 for the length of the entries, and the entries.
unfoldable pub block_encoding : EntryForm → List Kept → Bytes
block_encoding form entries = to_be_bytes w32 (length entries) ++ to_be_bytes w64 (length (entries_encoding form entries)) ++ entries_encoding form entries

-- the numbers that a file of that form keeps: a spool keeps none
abbrev pub FitsForm : EntryForm → Kept → Type 0
FitsForm Join kept = ⊤
FitsForm Spool kept = (kept.a ≡ 0) × (kept.d ≡ 0)

-- how many values the first row has
abbrev pub width_of : List Kept → ℕ
width_of [] = 0
width_of (kept ∷ more) = length kept.row

-- the rows have so many values
abbrev pub AreWide : ℕ → List Kept → Type 0
AreWide width entries = All (λ kept. length kept.row ≡ width) entries

-- all rows have one number of values
abbrev pub HaveOneWidth : List Kept → Type 0
HaveOneWidth entries = (width : ℕ) × AreWide width entries

-- and so have rows without numbers
abbrev pub RowsHaveOneWidth : RowList → Type 0
RowsHaveOneWidth rows = (width : ℕ) × All (λ row. length row ≡ width) rows

-- how many entries a block has, and how many values each of their rows
pub record BlockShape : Type 0 where
  pub count : ℕ
  pub width : ℕ

abbrev pub shape_of : List Kept → BlockShape
shape_of entries = record { count = length entries; width = width_of entries }

-- A file of blocks: the number by which its user calls it, its form, the spill file under it, and in the order in which they were put the shapes of its blocks and, where the file tells its content, the entries of each.
pub record BlockState : Type 0 where
  pub number : ℕ
  pub form : EntryForm
  pub file : FileState
  pub shapes : List BlockShape
  pub told : Option (List (List Kept))

-- a block of that number; one that isn't there has no entries
abbrev pub shape_at : BlockState → ℕ → BlockShape
shape_at s block = slice_index_or s.shapes block (record { count = 0; width = 0 })

abbrev pub entries_at : List (List Kept) → ℕ → List Kept
entries_at blocks block = slice_index_or blocks block []

-- the told entries have the shapes that are kept
abbrev pub TellsShapes : BlockState → Type 0
TellsShapes s = IfSome s.told (λ blocks. map shape_of blocks ≡ s.shapes)

-- no block is put or lost, and none changes
pub record KeepsBlocks (old new : BlockState) : Type 0 where
  pub number : new.number ≡ old.number
  pub form : new.form ≡ old.form
  pub shapes : new.shapes ≡ old.shapes
  pub told : new.told ≡ old.told

-- The entries are put behind the others as one block, by one append of its bytes.
pub record PutsBlock (old : BlockState) (entries : List Kept) (block : ℕ) (new : BlockState) : Type 0 where
  pub number : new.number ≡ old.number
  pub form : new.form ≡ old.form
  pub placed : block ≡ length old.shapes
  pub shapes : new.shapes ≡ old.shapes ++ shape_of entries ∷ []
  pub told : new.told ≡ option_map (λ blocks. blocks ++ entries ∷ []) old.told
  pub file : AppendsBytes old.file (block_encoding old.form entries) (file_length old.file) new.file
  -- each entry takes a byte at least, and all offsets are of 64 bits
  pub takes : file_length old.file + length entries ≤ file_length new.file
  pub far : file_length new.file < 2 ^ 64

-- what an answer without a block says: the append failed or was full, or memory ran out before anything was written
abbrev pub RefusesBlock : BlockState → List Kept → BlockFault → BlockState → Type 0
RefusesBlock old entries SpillFault new = FailsToAppend old.file (block_encoding old.form entries) new.file × KeepsBlocks old new
RefusesBlock old entries (SpillFull need limit) new = IsFull old.file (block_encoding old.form entries) need limit new.file × (new ≡ old)
RefusesBlock old entries (Differs kept found) new = ⊥
RefusesBlock old entries NoMemory new = new ≡ old

-- The entries of the block from a position on, so many or all that are left: those that were put, where the file tells its content. Told or not, their rows are as wide as those that were put.
pub record GivesRows (s : BlockState) (block from room : ℕ) (entries : List Kept) : Type 0 where
  pub count : length entries ≡ min room ((shape_at s block).count - from)
  pub wide : AreWide (shape_at s block).width entries
  pub formed : All (FitsForm s.form) entries
  pub told : IfSome s.told (λ blocks. entries ≡ take room (drop from (entries_at blocks block)))

-- these entries came behind others
abbrev pub GivesMore : BlockState → ℕ → ℕ → ℕ → List Kept → List Kept → Type 0
GivesMore s block from room old new = (given : List Kept) × (new ≡ old ++ given) × GivesRows s block from room given

-- another number of entries was found than was kept, in a file that doesn't tell its content
pub record FindsOther (s : BlockState) (block kept found : ℕ) : Type 0 where
  pub is_kept : kept ≡ (shape_at s block).count
  pub differs : found ≢ kept
  pub content_untold : file_content s.file ≡ None
  pub entries_untold : s.told ≡ None

-- what an answer without entries says: a read failed, or the block has another number of entries now
abbrev pub RefusesRows : BlockState → ℕ → BlockFault → BlockState → Type 0
RefusesRows old block SpillFault new = Rose old.file.faults new.file.faults
RefusesRows old block (SpillFull need limit) new = ⊥
RefusesRows old block (Differs kept found) new = FindsOther old block kept found
RefusesRows old block NoMemory new = ⊤

-- the file is read and the blocks stay
abbrev pub OnlyReads : BlockState → BlockState → Type 0
OnlyReads old new = KeepsBlocks old new × KeepsContent old.file new.file
