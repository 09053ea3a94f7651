-- How a bucket's rows lie in its pages.
use Rattle.std.specs.Prelude.{◌≡◌, ◌≤◌, ◌<◌, ◌^◌, ℕ, List, length, map, take, drop, All}
use Rattle.std.specs.List.{sum}
use Rattle.med_prelude.specs.Texts.{Bytes}
use Rattle.row_pages.specs.Lying.{Lies, piece_at}
use Rattle.tuple_core.specs.Encoded.{IsEncoding, row_of}
use Rattle.bucket_store.specs.Held.{ArePlaced, Held, HeldList, greatest_total, rows_weight, weights_of}
use Rattle.bucket_store.specs.Keys.{key_hash}
use Rattle.bucket_store.specs.declared.bucket.Stored.{Stored}

-- a key, and directly behind it a row's encoding
abbrev pub held_at : List Bytes → Stored → Held
held_at pages stored = record {
  key = take stored.key_length (piece_at pages stored.spot);
  row = row_of (drop stored.key_length (piece_at pages stored.spot));
  number = stored.number;
}

pub record IsStored (pages : List Bytes) (stored : Stored) : Type 0 where
  pub lies : Lies pages stored.spot
  pub within : stored.key_length ≤ length (piece_at pages stored.spot)
  pub encoding : IsEncoding (drop stored.key_length (piece_at pages stored.spot))

-- all of them lie there, chained by the hashes of their keys, and weighed
pub record AreStored (pages : List Bytes) (entries : List Stored) (hashes : List ℕ) (weight : ℕ) : Type 0 where
  pub each : All (IsStored pages) entries
  pub chained : hashes ≡ map (λ h. key_hash h.key) (map (held_at pages) entries)
  pub weighs : weight ≡ rows_weight (map (held_at pages) entries)

-- the rows lie in the buckets of their keys, and all of them are weighed
pub record AreKept (buckets : List HeldList) (weights : List ℕ) (total : ℕ) : Type 0 where
  pub placed : ArePlaced buckets
  pub few : length buckets < 2 ^ 32
  pub weighs : weights ≡ weights_of buckets
  pub total_is : total ≡ sum weights
  pub light : total ≤ greatest_total
