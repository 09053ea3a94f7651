-- What a block is put from.
use Rattle.std.specs.Prelude.{List, map}
use Rattle.spill_blocks.specs.Entries.{spooled}
use Rattle.spill_blocks.specs.declared.entries.Kept.{Kept}
use Rattle.spill_blocks.specs.declared.listing.Listing.{Listing}
use Rattle.spill_blocks.specs.declared.listing.Listing.TheVariants as listing

-- the entries of a listing; rows have no numbers
abbrev pub listed : Listing → List Kept
listed (listing.Entries entries) = entries.now
listed (listing.Rows rows) = map spooled rows.now
