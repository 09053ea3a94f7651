-- What the table of a file of blocks says.
use Rattle.std.specs.Prelude.{◌≡◌, ⊤, ℕ, ◌+◌, ◌<◌, ◌≤◌, ◌^◌, All, List, length, take, drop, map, slice_index_or, Option, Some, None, IfSome, option_map}
use Rattle.std.specs.Int.{w32, to_be_bytes}
use Rattle.med_prelude.specs.Texts.{Bytes, ToldBytes}
use Rattle.spill_blocks.specs.Blocks.{BlockShape}
use Rattle.spill_blocks.specs.Reading.{LieAt, entries_in}
use Rattle.spill_blocks.specs.declared.entries.Kept.{Kept}
use Rattle.spill_blocks.specs.declared.form.EntryForm.{EntryForm}
use Rattle.spill_blocks.specs.declared.table.Block.{Block}
use Rattle.spill_blocks.specs.declared.table.Mark.{Mark}
use Rattle.spill_blocks.specs.declared.table.Place.{Place}

abbrev pub shape_kept : Block → BlockShape
shape_kept block = record { count = block.count; width = block.width }

-- the entries of a block lie behind its head
abbrev pub first_entry : Block → ℕ
first_entry block = block.start + 12

abbrev pub entries_of : EntryForm → Bytes → Block → List Kept
entries_of form content block = entries_in form block.width block.count (drop (first_entry block) content)

-- the entries of each block, where the content is told
abbrev pub told_entries : EntryForm → ToldBytes → List Block → Option (List (List Kept))
told_entries form told blocks = option_map (λ content. map (entries_of form content) blocks) told

-- the head of a block lies before the end, and it has an entry
pub record IsPlaced (end : ℕ) (block : Block) : Type 0 where
  pub before : first_entry block ≤ end
  pub counted : block.count < 2 ^ 32
  pub some : 0 < block.count

-- the content has the block's number of entries, and then these entries
pub record IsBlock (form : EntryForm) (end : ℕ) (content : Bytes) (block : Block) : Type 0 where
  pub head : take 4 (drop block.start content) ≡ to_be_bytes w32 block.count
  pub many : length (entries_of form content block) ≡ block.count
  pub lie : LieAt form block.width end content (first_entry block) (entries_of form content block)

-- what the table of blocks says, over the content that may be told
pub record IsTable (form : EntryForm) (told : ToldBytes) (end : ℕ) (blocks : List Block) : Type 0 where
  pub far : end < 2 ^ 64
  pub numbered : length blocks ≤ 2 ^ 32
  pub placed : All (IsPlaced end) blocks
  pub blocks_are : IfSome told (λ content. (end ≤ length content) × All (IsBlock form end content) blocks)

-- what isn't there is an empty block
abbrev pub no_block : Block
no_block = record { start = 0; count = 0; width = 0 }

abbrev pub block_at : List Block → ℕ → Block
block_at blocks index = slice_index_or blocks index no_block

-- At the place the entries of the block from its position on begin.
pub record IsReached (form : EntryForm) (told : ToldBytes) (end : ℕ) (block : Block) (place : Place) : Type 0 where
  pub within : place.next ≤ block.count
  pub before : place.at ≤ end
  pub lies : IfSome told (λ content. LieAt form block.width end content place.at (drop place.next (entries_of form content block)))

-- where a block's entries begin
abbrev pub first_place : Block → Place
first_place block = record { next = 0; at = first_entry block }

-- where reading stopped last is a place of a block
abbrev pub IsMark : EntryForm → ToldBytes → ℕ → List Block → Option Mark → Type 0
IsMark form told end blocks None = ⊤
IsMark form told end blocks (Some mark) = (mark.block < length blocks) × IsReached form told end (block_at blocks mark.block) mark.place

pub record IsKept (form : EntryForm) (told : ToldBytes) (end : ℕ) (blocks : List Block) (mark : Option Mark) : Type 0 where
  pub table : IsTable form told end blocks
  pub marked : IsMark form told end blocks mark
