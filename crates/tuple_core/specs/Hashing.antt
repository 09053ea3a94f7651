-- The hash of bytes, and the bucket of a key.
use Rattle.std.specs.Prelude.{ℕ, ◌+◌, ◌*◌, ◌%◌, ◌^◌, fold}
use Rattle.med_prelude.specs.Texts.{Bytes}

abbrev pub byte_hash : Bytes → ℕ
byte_hash = fold (λ hash byte. (hash * 31 + byte) % 2 ^ 64) 7

-- the number of a key's bucket among so many, which are numbered from 0
abbrev pub bucket_of : ℕ → Bytes → ℕ
bucket_of buckets key = byte_hash key % buckets
