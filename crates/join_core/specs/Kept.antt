-- What a join keeps of its rows.
use Rattle.std.specs.Prelude.{◌≡◌, ◌<◌, ◌≤◌, ◌+◌, ⊤, ℕ, List, [], ◌∷◌, ◌++◌, length, slice_index_or, Option, All}
use Rattle.std.specs.List.{AllPairs}
use Rattle.std.specs.Option.{MatchOption}
use Rattle.med_prelude.specs.Texts.{Bytes}
use Rattle.tuple_core.specs.Encoding.{row_encoding}
use Rattle.tuple_core.specs.Values.{FitsRow}
use Rattle.row_match.specs.Shapes.{Shape, key_row, vars_of}
use Rattle.row_match.specs.declared.shape.Side.{Side}
use Rattle.row_match.specs.declared.shape.Side.TheVariants as side
use Rattle.bucket_store.specs.Held.{ArePlaced, Held, HeldList, rows_in}
use Rattle.bucket_store.specs.Addresses.{address_of}
use Rattle.join_core.specs.Sides.{TwoSides, buckets_on, opposite}
use Rattle.join_core.specs.declared.probe.Probe.{Probe}

-- a row of the side, that came before the next one
pub record IsHeld (side : Side) (shape : Shape) (next : ℕ) (held : Held) : Type 0 where
  pub key_is : held.key ≡ row_encoding (key_row side shape held.row)
  pub wide : length held.row ≡ length (vars_of side shape)
  pub fits : FitsRow held.row
  pub earlier : held.number < next

-- the rows of a bucket lie as they came
abbrev pub AreRising : HeldList → Type 0
AreRising rows = AllPairs (λ x y. x.number < y.number) rows

pub record IsSide (side : Side) (shape : Shape) (next : ℕ) (buckets : List HeldList) : Type 0 where
  pub placed : ArePlaced buckets
  pub each : (bucket : ℕ) → bucket < length buckets → All (IsHeld side shape next) (rows_in buckets bucket)
  pub rising : (bucket : ℕ) → bucket < length buckets → AreRising (rows_in buckets bucket)

-- the rows with which the probe is compared
abbrev pub facing_rows : TwoSides → Probe → HeldList
facing_rows sides p = rows_in (buckets_on (opposite p.side) sides) p.address.bucket

-- The probe is that of the last row, which lies last in its bucket. The facing rows before its place have numbers below `from`, the others not.
pub record IsProbing (shape : Shape) (sides : TwoSides) (next : ℕ) (key : Bytes) (p : Probe) : Type 0 where
  pub last : p.number + 1 ≡ next
  pub key_is : key ≡ row_encoding (key_row p.side shape p.row)
  pub address_is : p.address ≡ address_of (length (buckets_on p.side sides)) key
  pub others : HeldList
  pub own : rows_in (buckets_on p.side sides) p.address.bucket ≡ others ++ record { key = key; row = p.row; number = p.number } ∷ []
  pub behind : (k : ℕ) (d : Held) → k < p.place → k < length (facing_rows sides p) → (slice_index_or (facing_rows sides p) k d).number < p.from
  pub ahead : (k : ℕ) (d : Held) → p.place ≤ k → k < length (facing_rows sides p) → p.from ≤ (slice_index_or (facing_rows sides p) k d).number

pub record IsJoin (shape : Shape) (sides : TwoSides) (next : ℕ) (key : Bytes) (probe : Option Probe) : Type 0 where
  pub left : IsSide side.Left shape next sides.left
  pub right : IsSide side.Right shape next sides.right
  pub many : length sides.left ≡ length sides.right
  pub probing : MatchOption probe ⊤ (IsProbing shape sides next key)
