-- The rows of both sides that are in memory.
use Rattle.std.specs.Prelude.{List, map, option_map, Option, Bool, ℕ}
use Rattle.row_match.specs.Shapes.{Shape}
use Rattle.row_match.specs.declared.shape.Side.{Side}
use Rattle.row_match.specs.declared.shape.Side.TheVariants as side
use Rattle.tuple_core.specs.Values.{RowValues}
use Rattle.bucket_store.specs.Held.{HeldList}
use Rattle.join_core.specs.Given.{glued}
use Rattle.join_core.specs.State.{Joining, Probing, cursor_start, open_pile}
use Rattle.join_core.specs.declared.probe.Probe.{Probe}

pub record TwoSides : Type 0 where
  pub left : List HeldList
  pub right : List HeldList

abbrev pub opposite : Side → Side
opposite side.Left = side.Right
opposite side.Right = side.Left

abbrev pub buckets_on : Side → TwoSides → List HeldList
buckets_on side.Left sides = sides.left
buckets_on side.Right sides = sides.right

abbrev pub with_buckets : Side → TwoSides → List HeldList → TwoSides
with_buckets side.Left sides buckets = record sides { left = buckets }
with_buckets side.Right sides buckets = record sides { right = buckets }

abbrev pub probing_of : Probe → Probing
probing_of p = record { side = p.side; number = p.number; bucket = p.address.bucket; from = p.from }

-- a join whose rows are all in memory
abbrev pub joining_of : Shape → TwoSides → Bool → Bool → ℕ → Option Probe → Joining
joining_of shape sides left_ended right_ended next probe = record {
  shape = shape;
  left = map open_pile sides.left;
  right = map open_pile sides.right;
  left_ended = left_ended;
  right_ended = right_ended;
  next = next;
  probe = option_map probing_of probe;
  cursor = cursor_start;
}

-- the row of a side and one of the other side, glued in the order of the sides
abbrev pub glued_on : Side → Shape → RowValues → RowValues → RowValues
glued_on side.Left shape row other = glued shape row other
glued_on side.Right shape row other = glued shape other row

-- the probe, which has come to a place
abbrev pub at_place : ℕ → ℕ → Probe → Probe
at_place place from p = record p { place = place; from = from }
