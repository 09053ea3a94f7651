use Rattle.std.proofs.Common.{◌≡◌, ◌*◌, ◌≤◌, All, length, take}
use Rattle.spill_blocks.specs.Blocks.{entries_encoding, greatest_entry}
use Rattle.spill_blocks.specs.Listings.{listed}
use Rattle.spill_blocks.specs.Reading.{FitsKept}
use Rattle.spill_blocks.proofs.encoding.entries_length.Given as goal

abbrev pub invariant-loop-index : goal.invariant-loop-index
invariant-loop-index l = record {
  long : l.length ≡ length (entries_encoding l.form (take l.index (listed l.listing)));
  bound : l.length ≤ greatest_entry * l.index;
  fits : All FitsKept (take l.index (listed l.listing));
}
