-- A spill file with the piece of it that was read last.
use Rattle.std.specs.Prelude.{◌≡◌, ⊤, ℕ, ◌+◌, ◌-◌, ◌*◌, ◌<◌, ◌≤◌, ◌^◌, nat_le, min, max, [], length, take, drop, IfSome, if◌then◌else◌}
use Rattle.med_base.specs.Spills.{FileState, KeepsContent, file_content, file_length}
use Rattle.med_prelude.specs.Counts.{Rose}
use Rattle.med_prelude.specs.Texts.{Bytes}
use Rattle.med_base.specs.declared.outside.spill.SpillFault as declared_fault
use Rattle.med_base.specs.declared.outside.spill.SpillFault.TheVariants as spill
use Rattle.spill_blocks.specs.declared.fault.BlockFault.{BlockFault}
use Rattle.spill_blocks.specs.declared.fault.BlockFault.TheVariants.{SpillFault, SpillFull, Differs, NoMemory}

pub record Window : Type 0 where
  pub file : FileState
  -- where what was appended ends
  pub end : ℕ
  -- the piece that is held, and the offset at which it begins
  pub start : ℕ
  pub piece : Bytes

-- the piece lies before the end, and told content has it
pub record IsWindow (w : Window) : Type 0 where
  pub limited : w.file.limit < 2 ^ 64
  pub far : w.end < 2 ^ 64
  pub reached : w.end ≤ file_length w.file
  pub inside : w.start + length w.piece ≤ w.end
  pub told : IfSome (file_content w.file) (λ content. w.piece ≡ take (length w.piece) (drop w.start content))

-- what is held of the file from an offset on
abbrev pub held_from : Window → ℕ → Bytes
held_from w at = if nat_le w.start at then drop (at - w.start) w.piece else []

-- what is held are the first bytes from the offset on, and told content has them
pub record IsHeld (w : Window) (at : ℕ) (bytes : Bytes) : Type 0 where
  pub are : bytes ≡ held_from w at
  pub far : w.end < 2 ^ 64
  pub inside : at ≤ w.end → at + length bytes ≤ w.end
  pub told : IfSome (file_content w.file) (λ content. bytes ≡ take (length bytes) (drop at content))

-- how much is read at once
abbrev pub least_piece : ℕ
least_piece = 65536

-- the file and its end stay, only the piece may be another
pub record KeepsFile (old new : Window) : Type 0 where
  pub file : KeepsContent old.file new.file
  pub end : new.end ≡ old.end

-- More is held from the offset on than before: a whole piece, or twice as much, or all.
pub record HoldsMore (old : Window) (at : ℕ) (new : Window) : Type 0 where
  pub more : length (held_from old at) < length (held_from new at)
  pub many : length (held_from new at) ≡ min (max least_piece (2 * length (held_from old at))) (old.end - at)

-- all up to the end is held already
pub record HoldsAll (old : Window) (at : ℕ) (new : Window) : Type 0 where
  pub all : at + length (held_from old at) ≡ old.end
  pub same : new ≡ old

-- a read may fail, and memory may run out
abbrev pub FailsToRead : BlockFault → FileState → FileState → Type 0
FailsToRead SpillFault old new = Rose old.faults new.faults
FailsToRead (SpillFull need limit) old new = ⊥
FailsToRead (Differs kept found) old new = ⊥
FailsToRead NoMemory old new = ⊤

-- the fault of a file of blocks for that of the spill file under it
abbrev pub block_fault : declared_fault.SpillFault → BlockFault
block_fault spill.Failed = SpillFault
block_fault (spill.Full need limit) = SpillFull need limit
block_fault spill.NoMemory = NoMemory
