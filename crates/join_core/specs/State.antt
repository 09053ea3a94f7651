-- What a join is, as contracts see it: plain data, which knows nothing of memory and pages.
use Rattle.std.specs.Prelude.{◌≡◌, ℕ, suc, ◌+◌, ◌-◌, Bool, true, false, List, [], ◌∷◌, ◌++◌, length, map, set, flat_map, replicate, slice_index_or, cond, Option, Some, None, is_none}
use Rattle.std.specs.List.{AllByRecursion}
use Rattle.tuple_core.specs.Encoding.{row_encoding}
use Rattle.tuple_core.specs.Hashing.{bucket_of}
use Rattle.tuple_core.specs.Values.{FitsRow, RowList, RowValues}
use Rattle.row_match.specs.Shapes.{Shape, key_row}
use Rattle.row_match.specs.declared.shape.Side.{Side}
use Rattle.row_match.specs.declared.shape.Side.TheVariants as side
use Rattle.bucket_store.specs.Held.{Held, HeldList, rows_weight}

-- The rows of a bucket of one side, as they came; and the number from which on none of them is in memory, if the bucket was closed. A bucket that is closed
-- takes no row into memory any more.
pub record Pile : Type 0 where
  pub rows : HeldList
  pub closed : Option ℕ

-- The row that came last, and what of the other side's bucket it has still to be compared with: the rows whose numbers are at least `from`.
pub record Probing : Type 0 where
  pub side : Side
  pub number : ℕ
  pub bucket : ℕ
  pub from : ℕ

-- How far the clean-up has come. It goes through the buckets, and in each through chunks of its left rows: those with the numbers from `start` up to `stop` are compared
-- with the right rows one by one. It is behind the right rows with lesser numbers, and with this one behind the left rows of the chunk with lesser numbers.
pub record Cursor : Type 0 where
  pub bucket : ℕ
  pub start : ℕ
  pub stop : ℕ
  pub right : ℕ
  pub left : ℕ

pub record Joining : Type 0 where
  pub shape : Shape
  pub left : List Pile
  pub right : List Pile
  pub left_ended : Bool
  pub right_ended : Bool
  -- the number of the next row
  pub next : ℕ
  pub probe : Option Probing
  pub cursor : Cursor

abbrev pub open_pile : HeldList → Pile
open_pile rows = record { rows = rows; closed = None }

abbrev pub no_pile : Pile
no_pile = open_pile []

-- the bucket takes rows into memory, and all that it has are there
abbrev pub is_open : Pile → Bool
is_open pile = is_none pile.closed

abbrev pub cursor_start : Cursor
cursor_start = record { bucket = 0; start = 0; stop = 0; right = 0; left = 0 }

-- a join to which nothing has come
abbrev pub fresh_join : ℕ → Shape → Joining
fresh_join buckets shape = record {
  shape = shape;
  left = replicate buckets no_pile;
  right = replicate buckets no_pile;
  left_ended = false;
  right_ended = false;
  next = 0;
  probe = None;
  cursor = cursor_start;
}

abbrev pub piles_of : Side → Joining → List Pile
piles_of side.Left s = s.left
piles_of side.Right s = s.right

abbrev pub has_ended : Side → Joining → Bool
has_ended side.Left s = s.left_ended
has_ended side.Right s = s.right_ended

-- all rows of a side
abbrev pub rows_of : List Pile → HeldList
rows_of piles = flat_map (λ p. p.rows) piles

-- what came on a side
abbrev pub stored_rows : Side → Joining → RowList
stored_rows side s = map (λ h. h.row) (rows_of (piles_of side s))

-- a value for each of the variables, within the limits of rows
pub record IsRowOver (vs : List ℕ) (row : RowValues) : Type 0 where
  pub wide : length row ≡ length vs
  pub fits : FitsRow row

abbrev pub AreRowsOver : List ℕ → RowList → Type 0
AreRowsOver vs rows = AllByRecursion (IsRowOver vs) rows

-- the row with its key and its number, if it comes next
abbrev pub held_next : Side → Joining → RowValues → Held
held_next side s row = record { key = row_encoding (key_row side s.shape row); row = row; number = s.next }

abbrev pub pile_at : List Pile → ℕ → Pile
pile_at piles bucket = slice_index_or piles bucket no_pile

-- the bucket of a row
abbrev pub pile_for : List Pile → Held → Pile
pile_for piles held = pile_at piles (bucket_of (length piles) held.key)

-- one row more in the bucket of its key
abbrev pub with_held : List Pile → Held → List Pile
with_held piles held = set piles (bucket_of (length piles) held.key) (record (pile_for piles held) { rows = (pile_for piles held).rows ++ held ∷ [] })

-- the probe of a row that comes next: it is compared with all that the other side has in the bucket
abbrev pub probe_of : Side → Joining → Held → Probing
probe_of side s held = record { side = side; number = held.number; bucket = bucket_of (length (piles_of side s)) held.key; from = 0 }

-- the row has come
abbrev pub arrived : Side → Joining → RowValues → Joining
arrived side.Left s row = record s { left = with_held s.left (held_next side.Left s row); next = s.next + 1; probe = Some (probe_of side.Left s (held_next side.Left s row)) }
arrived side.Right s row = record s { right = with_held s.right (held_next side.Right s row); next = s.next + 1; probe = Some (probe_of side.Right s (held_next side.Right s row)) }

-- no row comes on this side any more
abbrev pub ended : Side → Joining → Joining
ended side.Left s = record s { left_ended = true }
ended side.Right s = record s { right_ended = true }

-- how many numbers the probe under way has still to come to, and one more for its end
abbrev pub probe_left_in : Option Probing → ℕ → ℕ
probe_left_in None next = 0
probe_left_in (Some p) next = suc (next - p.from)

abbrev pub probe_left : Joining → ℕ
probe_left s = probe_left_in s.probe s.next

-- how much the rows of each bucket weigh that are in memory
abbrev pub pile_weights : List Pile → List ℕ
pile_weights piles = map (λ p. cond (is_open p) (rows_weight p.rows) 0) piles
