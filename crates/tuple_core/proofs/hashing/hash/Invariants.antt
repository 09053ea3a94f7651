use Rattle.std.proofs.Common.{◌≡◌, take}
use Rattle.tuple_core.specs.Hashing.{byte_hash}
use Rattle.tuple_core.proofs.hashing.hash.Given as goal

abbrev pub invariant-loop-byte : goal.invariant-loop-byte
invariant-loop-byte l = l.hash ≡ byte_hash (take l.byte-index l.bytes)
