-- What a join keeps of its two sides' variables.
use Rattle.std.specs.Prelude.{◌≡◌, ℕ, ◌≤◌, not, List, length, filter}
use Rattle.std.specs.List.{filter_map}
use Rattle.answer_theory.specs.Bindings.{value_of}
use Rattle.answer_theory.specs.Solutions.{names}
use Rattle.answer_theory.specs.Rows.{over, AreDistinct, glued_variables, shared_variables}
use Rattle.tuple_core.specs.Values.{RowValues}
use Rattle.row_match.specs.Patterns.{most_variables, position_of}
use Rattle.row_match.specs.declared.shape.Side.{Side}
use Rattle.row_match.specs.declared.shape.Side.TheVariants as side

-- the variables of the two sides
pub record Shape : Type 0 where
  pub left : List ℕ
  pub right : List ℕ

-- the right variables that the left lacks
abbrev pub lacking_variables : List ℕ → List ℕ → List ℕ
lacking_variables us vs = filter (λ v. not (names us v)) vs

-- where the variables stand among others
abbrev pub positions_in : List ℕ → List ℕ → List ℕ
positions_in vs wanted = filter_map (position_of vs) wanted

-- each side's variables once, not too many together, and the positions that are kept of them
pub record IsShaped (left right left_key right_key lacks variables : List ℕ) : Type 0 where
  pub left_distinct : AreDistinct left
  pub right_distinct : AreDistinct right
  pub short : length (glued_variables left right) ≤ most_variables
  pub left_positions : left_key ≡ positions_in left (shared_variables left right)
  pub right_positions : right_key ≡ positions_in right (shared_variables left right)
  pub lacked_positions : lacks ≡ positions_in right (lacking_variables left right)
  pub together : variables ≡ glued_variables left right

abbrev pub vars_of : Side → Shape → List ℕ
vars_of side.Left s = s.left
vars_of side.Right s = s.right

abbrev pub key_positions : Side → Shape → List ℕ
key_positions side s = positions_in (vars_of side s) (shared_variables s.left s.right)

-- the values of the variables that both sides have, in the left side's order
abbrev pub key_row : Side → Shape → RowValues → RowValues
key_row side s row = filter_map (value_of (over (vars_of side s) row)) (shared_variables s.left s.right)
