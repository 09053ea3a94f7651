use Rattle.std.proofs.Common.{◌≡◌, ◌≤◌, ◌*◌, length, take, vec_capacity}
use Rattle.bucket_store.specs.Chained.{AreChained, hashes_of}
use Rattle.bucket_store.proofs.chains.make_room.Given as goal

abbrev pub invariant-loop-link : goal.invariant-loop-link
invariant-loop-link l = AreChained l.more_slots.items l.more_links.items × (hashes_of l.more_links.items ≡ take l.link-index (hashes_of l.link-items)) × (length l.more_slots.items ≡ 2 * l.room) × (l.room ≤ vec_capacity l.more_links)
