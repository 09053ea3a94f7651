use Rattle.std.proofs.Common.{◌≡◌, ◌-◌, length}
use Rattle.bucket_store.specs.Held.{has_key}
use Rattle.bucket_store.specs.Places.{next_place}
use Rattle.bucket_store.proofs.bucket.Bucket.next.Given as goal

abbrev pub invariant-loop-place : goal.invariant-loop-place
invariant-loop-place l = next_place (has_key l.key) l.self l.from-2 ≡ next_place (has_key l.key) l.self l.from

abbrev pub decreases-loop-place : goal.decreases-loop-place
decreases-loop-place l = length l.self - l.from
