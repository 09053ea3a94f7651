use Rattle.std.proofs.Common.{length}
use Rattle.bucket_store.specs.Chained.{IsOnWay, hashes_of}
use Rattle.bucket_store.proofs.Walking.{walk_left}
use Rattle.bucket_store.proofs.chains.next_of.Given as goal

abbrev pub invariant-loop-next : goal.invariant-loop-next
invariant-loop-next l = IsOnWay (length l.slots) (hashes_of l.links) l.hash l.from l.next

abbrev pub decreases-loop-next : goal.decreases-loop-next
decreases-loop-next l = walk_left (length l.links) l.next
