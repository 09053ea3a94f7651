-- Where a key's rows are looked for.
use Rattle.std.specs.Prelude.{ℕ}
use Rattle.med_prelude.specs.Texts.{Bytes}
use Rattle.tuple_core.specs.Hashing.{bucket_of}

-- a key, and the bucket of its rows
pub record KeyAddress : Type 0 where
  pub key : Bytes
  pub bucket : ℕ

-- the address of a key among so many buckets
abbrev pub address_of : ℕ → Bytes → KeyAddress
address_of count key = record { key = key; bucket = bucket_of count key }
