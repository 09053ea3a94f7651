-- The rows of one side of a join that are in memory: bucket by bucket, in the order in which they came.
use Rattle.std.specs.Prelude.{◌≡◌, ◌<◌, ◌^◌, ℕ, Bool, List, [], ◌∷◌, ◌++◌, length, map, set, slice_index_or, nat_eq, All}
use Rattle.std.specs.List.{sum_by}
use Rattle.std.specs.Cmp.Lexicographic.{pointwise}
use Rattle.med_prelude.specs.Texts.{Bytes}
use Rattle.tuple_core.specs.Encoding.{row_weight}
use Rattle.tuple_core.specs.Hashing.{bucket_of}
use Rattle.tuple_core.specs.Values.{RowValues}

-- a row with its key, and the number with which it came
pub record Held : Type 0 where
  pub key : Bytes
  pub row : RowValues
  pub number : ℕ

abbrev pub HeldList : Type 0
HeldList = List Held

abbrev pub same_key : Bytes → Bytes → Bool
same_key = pointwise nat_eq

abbrev pub has_key : Bytes → Held → Bool
has_key key held = same_key held.key key

-- the rows of a bucket; one that isn't there has none
abbrev pub rows_in : List HeldList → ℕ → HeldList
rows_in buckets bucket = slice_index_or buckets bucket []

-- one row more, behind the others of its key's bucket
abbrev pub with_row : List HeldList → Held → List HeldList
with_row buckets held = set buckets (bucket_of (length buckets) held.key) (rows_in buckets (bucket_of (length buckets) held.key) ++ held ∷ [])

-- each row's key belongs to the bucket
abbrev pub BelongTo : ℕ → ℕ → HeldList → Type 0
BelongTo count bucket rows = All (λ h. bucket_of count h.key ≡ bucket) rows

-- there is a bucket, and each row lies in that of its key
pub record ArePlaced (buckets : List HeldList) : Type 0 where
  pub some : 0 < length buckets
  pub each : (bucket : ℕ) → bucket < length buckets → BelongTo (length buckets) bucket (rows_in buckets bucket)

-- how much rows weigh: the bytes of their encodings
abbrev pub rows_weight : HeldList → ℕ
rows_weight rows = sum_by (λ h. row_weight h.row) rows

-- how much the rows of each bucket weigh
abbrev pub weights_of : List HeldList → List ℕ
weights_of buckets = map rows_weight buckets

-- the most that all rows together weigh
abbrev pub greatest_total : ℕ
greatest_total = 2 ^ 60

-- a row without its key's bytes stands for nothing
abbrev pub no_row : Held
no_row = record { key = []; row = []; number = 0 }
