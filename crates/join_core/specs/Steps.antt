-- The steps of a join.
use Rattle.std.specs.Prelude.{◌≡◌, ◌<◌, Bool, true, ◌==◌, ◌&&◌, ◌||◌, [], ◌∷◌, ◌++◌, length, filter, None, is_none}
use Rattle.answer_theory.specs.Bags.{SameBag}
use Rattle.answer_theory.specs.Pairs.{AlikeOn}
use Rattle.tuple_core.specs.Values.{RowList, RowValues}
use Rattle.row_match.specs.declared.shape.Side.{Side}
use Rattle.row_match.specs.declared.shape.Side.TheVariants as side
use Rattle.bucket_store.specs.Held.{Held, same_key}
use Rattle.join_core.specs.State.{Joining, arrived, has_ended, probe_left, rows_of, stored_rows}
use Rattle.join_core.specs.Given.{given_rows, glued, is_given, is_owed, is_pending, pairs_given, pairs_left_over, pairs_pending}
use Rattle.join_core.specs.declared.join.Arrive.{Arrive}
use Rattle.join_core.specs.declared.join.Arrive.TheVariants as arrive
use Rattle.join_core.specs.declared.join.OutStep.{OutStep}
use Rattle.join_core.specs.declared.join.OutStep.TheVariants as out

-- A step: rows came on the sides, and rows were given, as bags. Whatever a join does is such steps, one after another.
pub record JoinStep (s t : Joining) (from_left from_right gave : RowList) : Type 0 where
  pub shape : t.shape ≡ s.shape
  pub left : SameBag (stored_rows side.Left t) (stored_rows side.Left s ++ from_left)
  pub right : SameBag (stored_rows side.Right t) (stored_rows side.Right s ++ from_right)
  pub given : SameBag (given_rows t) (given_rows s ++ gave)

-- the rows, if they come on that side
abbrev pub on_side : Side → Side → RowList → RowList
on_side side.Left side.Left rows = rows
on_side side.Left side.Right rows = []
on_side side.Right side.Left rows = []
on_side side.Right side.Right rows = rows

-- the same row: no two rows of a side have one number
abbrev pub is_row : Held → Held → Bool
is_row h x = same_key x.key h.key && (x.number == h.number)

-- One pair more was given, which was owed; its glue is the row. Each of the two rows is there once. No other pair was given, and the rows that are there are the same.
pub record GivesPair (s t : Joining) (row : RowValues) (left right : Held) : Type 0 where
  pub left_once : filter (is_row left) (rows_of s.left) ≡ left ∷ []
  pub right_once : filter (is_row right) (rows_of s.right) ≡ right ∷ []
  pub was_owed : is_owed s left right ≡ true
  pub glue : row ≡ glued s.shape left.row right.row
  pub one_more : AlikeOn (rows_of s.left) (rows_of s.right) (is_given t) (λ l r. is_given s l r || (is_row left l && is_row right r))
  pub same_shape : t.shape ≡ s.shape
  pub same_left : t.left ≡ s.left
  pub same_right : t.right ≡ s.right

-- A match of the probe was given; only the probe has changed, and less is left for it.
pub record GivesMatch (s t : Joining) (row : RowValues) : Type 0 where
  pub left : Held
  pub right : Held
  pub pair : GivesPair s t row left right
  pub was_pending : is_pending s left right ≡ true
  pub same : t ≡ record s { probe = t.probe }
  pub falls : probe_left t < probe_left s

-- No match was left, and no probe is under way any more; the pairs that were given are the same.
pub record GivesNothing (s t : Joining) : Type 0 where
  pub none : pairs_pending s ≡ []
  pub ended : t ≡ record s { probe = None }
  pub same_given : pairs_given t ≡ pairs_given s

abbrev pub GivesNext : Joining → Joining → OutStep → Type 0
GivesNext s t (out.Row row) = GivesMatch s t row
GivesNext s t out.Nothing = GivesNothing s t
GivesNext s t out.NoMemory = t ≡ s

abbrev pub gave_out : OutStep → RowList
gave_out (out.Row row) = row ∷ []
gave_out out.Nothing = []
gave_out out.NoMemory = []

-- the row came, or it is handed back and nothing has changed
abbrev pub Arrives : Joining → Joining → Side → RowValues → Arrive → Type 0
Arrives s t side row arrive.Taken = t ≡ arrived side s row
Arrives s t side row (arrive.NoMemory back) = (back ≡ row) × (t ≡ s)

-- what came, if it was taken
abbrev pub came_in : RowValues → Arrive → RowList
came_in row arrive.Taken = row ∷ []
came_in row (arrive.NoMemory back) = []

-- both sides have ended, no probe is under way, and no pair is left for the clean-up
abbrev pub is_finished : Joining → Bool
is_finished s = (has_ended side.Left s && has_ended side.Right s) && (is_none s.probe && (length (pairs_left_over s) == 0))
