-- What a net is, as contracts see it.
use Rattle.std.specs.Prelude.{ℕ, Bool, List, filter}
use Rattle.answer_theory.specs.Rows.{glued_variables, over}
use Rattle.tuple_core.specs.Values.{RowList, RowValues}
use Rattle.row_match.specs.Filters.{all_hold}
use Rattle.row_match.specs.Patterns.{pattern_variables}
use Rattle.row_match.specs.Shapes.{Shape}
use Rattle.row_match.specs.declared.filter.Comparison.{Comparison}
use Rattle.row_match.specs.declared.shape.Side.{Side}
use Rattle.row_match.specs.declared.shape.Side.TheVariants as side
use Rattle.join_core.specs.Given.{given_rows}
use Rattle.join_core.specs.State.{Joining}
use Rattle.collect_core.specs.Collecting.{Collecting}
use Rattle.step_core.specs.Edges.{Waits}

-- an atom's collector
pub record LeafState (S : Type 0) : Type 0 where
  pub atom : ℕ
  pub collecting : Collecting S

-- a join, the comparisons that are placed at it, and its edges in
pub record JoinState : Type 0 where
  pub number : ℕ
  pub joining : Joining
  pub comparisons : List Comparison
  pub left : Waits
  pub right : Waits

-- the operators: each join takes the rows of the two below it
pub data NetTree (S : Type 0) : Type 0 where
  leaf : LeafState S → NetTree S
  fork : JoinState → NetTree S → NetTree S → NetTree S

-- the operators, the last edge, and the rows that were taken of it
pub record NetState (S : Type 0) : Type 0 where
  pub tree : NetTree S
  pub edge : Waits
  pub rows : RowList

abbrev pub edge_on : Side → JoinState → Waits
edge_on side.Left j = j.left
edge_on side.Right j = j.right

-- the variables of both sides
abbrev pub joined_variables : Shape → List ℕ
joined_variables s = glued_variables s.left s.right

-- the variables of the rows that an operator gives
abbrev pub variables : {S : Type 0} → NetTree S → List ℕ
variables (leaf l) = pattern_variables l.collecting.select.terms
variables (fork j a b) = joined_variables j.joining.shape

-- each comparison of a join holds of the row
abbrev pub passes : JoinState → RowValues → Bool
passes j row = all_hold j.comparisons (over (joined_variables j.joining.shape) row)

-- what a join gives: the glued rows that pass
abbrev pub passed_rows : JoinState → RowList
passed_rows j = filter (passes j) (given_rows j.joining)
