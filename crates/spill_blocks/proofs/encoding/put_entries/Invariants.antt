use Rattle.std.proofs.Common.{◌≡◌, ◌++◌, take}
use Rattle.spill_blocks.specs.Blocks.{entries_encoding}
use Rattle.spill_blocks.specs.Listings.{listed}
use Rattle.spill_blocks.proofs.encoding.put_entries.Given as goal

abbrev pub invariant-loop-index : goal.invariant-loop-index
invariant-loop-index l = l.into.items ≡ l.initial.into.items ++ entries_encoding l.form (take l.index (listed l.listing))
