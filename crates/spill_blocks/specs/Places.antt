-- How entries of a block are read, from a place on.
use Rattle.std.specs.Prelude.{◌≡◌, ◌≢◌, ⊤, ℕ, ◌+◌, ◌-◌, ◌<◌, ◌≤◌, All, List, ◌++◌, length, take, drop, Some, IfSome}
use Rattle.std.specs.Int.{w32, to_be_bytes}
use Rattle.med_base.specs.Spills.{file_content}
use Rattle.med_prelude.specs.Counts.{Rose}
use Rattle.med_prelude.specs.Texts.{Bytes}
use Rattle.spill_blocks.specs.Blocks.{AreWide, FitsForm}
use Rattle.spill_blocks.specs.Reading.{LieAt}
use Rattle.spill_blocks.specs.Windows.{Window, held_from}
use Rattle.spill_blocks.specs.declared.entries.Kept.{Kept}
use Rattle.spill_blocks.specs.declared.fault.BlockFault.{BlockFault}
use Rattle.spill_blocks.specs.declared.fault.BlockFault.TheVariants.{SpillFault, SpillFull, Differs, NoMemory}
use Rattle.spill_blocks.specs.declared.seeking.Wanted.{Wanted}
use Rattle.spill_blocks.specs.declared.table.Block.{Block}
use Rattle.spill_blocks.specs.declared.table.Place.{Place}

-- What lay at the first place lies at this one, but for what was read; these are given of it.
abbrev pub IsRest : Wanted → ℕ → Bytes → Place → Place → List Kept → Type 0
IsRest wanted end content first place given = (left : List Kept) → LieAt wanted.form wanted.width end content first.at left → wanted.stop - first.next ≤ length left
    → LieAt wanted.form wanted.width end content place.at (drop (place.next - first.next) left) × (given ≡ drop (wanted.from - first.next) (take (place.next - first.next) left))

-- From the first place on up to this one the entries that are wanted came behind those that were there before.
pub record ReadsFrom (wanted : Wanted) (w : Window) (first : Place) (before : List Kept) (place : Place) (entries : List Kept) : Type 0 where
  pub later : first.next ≤ place.next
  pub within : place.next ≤ wanted.stop
  pub reached : place.at ≤ w.end
  pub given : List Kept
  pub gains : entries ≡ before ++ given
  pub many : length given ≡ place.next - wanted.from
  pub wide : AreWide wanted.width given
  pub formed : All (FitsForm wanted.form) given
  pub told : IfSome (file_content w.file) (λ content. IsRest wanted w.end content first place given)

-- how much is left to be loaded and to be read
abbrev pub left_to_read : Wanted → Window → Place → ℕ
left_to_read wanted w place = (w.end - (place.at + length (held_from w place.at))) + (wanted.stop - place.next)

-- no entry of told content lies at the place
abbrev pub NothingLies : Wanted → Window → Place → Type 0
NothingLies wanted w place = (content : Bytes) → file_content w.file ≡ Some content → (left : List Kept) → 0 < length left → ¬ (LieAt wanted.form wanted.width w.end content place.at left)

-- why the entry at a place isn't read
abbrev pub FailsAt : Wanted → BlockFault → Window → Place → Window → Type 0
FailsAt wanted SpillFault old place new = Rose old.file.faults new.file.faults
FailsAt wanted (SpillFull need limit) old place new = ⊥
FailsAt wanted (Differs kept found) old place new = (kept ≡ wanted.count) × (found ≢ kept) × NothingLies wanted old place
FailsAt wanted NoMemory old place new = ⊤

-- so many entries as are wanted don't lie at the first place
abbrev pub TooFewLie : Wanted → Window → Place → Type 0
TooFewLie wanted w first = (content : Bytes) → file_content w.file ≡ Some content → (left : List Kept) → wanted.stop - first.next ≤ length left → ¬ (LieAt wanted.form wanted.width w.end content first.at left)

-- why the entries from a place on aren't read
abbrev pub FailsFrom : Wanted → BlockFault → Window → Place → Window → Type 0
FailsFrom wanted SpillFault old first new = Rose old.file.faults new.file.faults
FailsFrom wanted (SpillFull need limit) old first new = ⊥
FailsFrom wanted (Differs kept found) old first new = (kept ≡ wanted.count) × (found ≢ kept) × TooFewLie wanted old first
FailsFrom wanted NoMemory old first new = ⊤

-- the content doesn't begin the block with the number of its entries
abbrev pub LacksHead : Block → Window → Type 0
LacksHead block w = (content : Bytes) → file_content w.file ≡ Some content → ¬ (take 4 (drop block.start content) ≡ to_be_bytes w32 block.count)

-- why a block isn't read from its first entry on
abbrev pub FailsToOpen : Block → BlockFault → Window → Window → Type 0
FailsToOpen block SpillFault old new = Rose old.file.faults new.file.faults
FailsToOpen block (SpillFull need limit) old new = ⊥
FailsToOpen block (Differs kept found) old new = (kept ≡ block.count) × (found ≢ kept) × LacksHead block old
FailsToOpen block NoMemory old new = ⊤
