use Rattle.std.proofs.Common.{◌≡◌, take}
use Rattle.bucket_store.specs.Keys.{spread}
use Rattle.bucket_store.proofs.hashing.spread.Given as goal

abbrev pub invariant-loop-byte : goal.invariant-loop-byte
invariant-loop-byte l = l.hash ≡ spread (take l.byte-index l.bytes)
