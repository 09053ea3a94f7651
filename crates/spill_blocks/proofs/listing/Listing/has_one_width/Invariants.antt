use Rattle.std.proofs.Common.{take}
use Rattle.spill_blocks.specs.Blocks.{AreWide}
use Rattle.spill_blocks.specs.Listings.{listed}
use Rattle.spill_blocks.proofs.listing.Listing.has_one_width.Given as goal

abbrev pub invariant-loop-index : goal.invariant-loop-index
invariant-loop-index l = AreWide l.width (take l.index (listed l.self))
