-- That a net stands.
use Rattle.std.specs.Prelude.{◌≡◌, ◌==◌, true, ℕ, List, length}
use Rattle.std.specs.List.{AllByRecursion, list_all}
use Rattle.answer_theory.specs.Bags.{SameBag}
use Rattle.answer_theory.specs.Solutions.{names}
use Rattle.med_base.specs.declared.outside.source.Source.{Ghosts as Source}
use Rattle.tuple_core.specs.Values.{RowList}
use Rattle.row_match.specs.Filters.{comparison_variables}
use Rattle.row_match.specs.declared.filter.Comparison.{Comparison}
use Rattle.row_match.specs.declared.shape.Side.TheVariants as side
use Rattle.join_core.specs.Given.{given_rows, joined_rows}
use Rattle.join_core.specs.State.{AreRowsOver, Joining, stored_rows}
use Rattle.join_core.specs.Steps.{is_finished}
use Rattle.collect_core.specs.Members.{AreSound, AreTold, HasAccepted, are_settled}
use Rattle.collect_core.specs.Selecting.{Select}
use Rattle.collect_core.specs.Steps.{given_rows as selected_of}
use Rattle.step_core.specs.Edges.{IsEdge}
use Rattle.step_core.specs.Nets.{JoinState, LeafState, NetState, NetTree, leaf, fork, joined_variables, passed_rows, variables}

-- each row has a value for each of the variables
abbrev pub AreWide : List ℕ → RowList → Type 0
AreWide vs rows = list_all (λ row. length row == length vs) rows ≡ true

-- the join has given the glue of each pair with equal keys, and no more comes
pub record IsWhole (s : Joining) : Type 0 where
  pub finished : is_finished s ≡ true
  pub all : SameBag (given_rows s) (joined_rows s.shape (stored_rows side.Left s) (stored_rows side.Right s))
  pub left : AreRowsOver s.shape.left (stored_rows side.Left s)
  pub right : AreRowsOver s.shape.right (stored_rows side.Right s)

-- the operator at the top gives no more
abbrev pub IsDone : {S : Type 0} → NetTree S → Type 0
IsDone (leaf l) = are_settled l.collecting.members ≡ true
IsDone (fork j a b) = IsWhole j.joining

-- each row has a value for each term of the atom
abbrev pub FillTerms : Select → List RowList → Type 0
FillTerms select accepted = AllByRecursion (λ rows. AllByRecursion (λ row. length row ≡ length select.terms) rows) accepted

-- These are the rows that the collector gave: what its atom selects of the rows that were accepted of its members.
pub record HasSelected {S M : Type 0} (source : Source S M) (l : LeafState S) (gave : RowList) : Type 0 where
  pub accepted : List RowList
  pub has : HasAccepted source l.collecting.members accepted
  pub fill : FillTerms l.collecting.select accepted
  -- the first rows of each member, where its source tells its bytes; and what its end says of its source is so
  pub told : AreTold source l.collecting.columns l.collecting.members accepted
  pub sound : AreSound source l.collecting.columns l.collecting.members
  pub selected : gave ≡ selected_of l.collecting.select accepted
  pub wide : AreWide (variables (leaf l)) gave

-- the join takes its rows from two operators over these variables, which gave these rows
pub record TakesFrom (j : JoinState) (us vs : List ℕ) (LeftDone RightDone : Type 0) (from_left from_right : RowList) : Type 0 where
  pub left_variables : j.joining.shape.left ≡ us
  pub right_variables : j.joining.shape.right ≡ vs
  pub left : IsEdge j.left (stored_rows side.Left j.joining) from_left LeftDone
  pub right : IsEdge j.right (stored_rows side.Right j.joining) from_right RightDone
  pub left_ended : j.joining.left_ended ≡ j.left.taken
  pub right_ended : j.joining.right_ended ≡ j.right.taken
  pub left_wide : AreWide us from_left
  pub right_wide : AreWide vs from_right

-- All operators of the tree stand, and the one at the top gave these rows.
abbrev pub Stands : {S M : Type 0} → Source S M → NetTree S → RowList → Type 0
Stands source (leaf l) gave = HasSelected source l gave
Stands source (fork j a b) gave =
    (from_left from_right : RowList) × (Stands source a from_left × (Stands source b from_right
    × (TakesFrom j (variables a) (variables b) (IsDone a) (IsDone b) from_left from_right × (gave ≡ passed_rows j))))

-- comparisons read these variables alone
abbrev pub Reads : List ℕ → List Comparison → Type 0
Reads vs comparisons = (v : ℕ) → names (comparison_variables comparisons) v ≡ true → names vs v ≡ true

-- each comparison is placed at an operator that binds its variables
abbrev pub ArePlaced : {S : Type 0} → NetTree S → Type 0
ArePlaced (leaf l) = Reads (variables (leaf l)) l.collecting.select.comparisons
ArePlaced (fork j a b) = ArePlaced a × (ArePlaced b × Reads (joined_variables j.joining.shape) j.comparisons)

-- The net stands: its operators do, and so does the last edge, whose rows were taken into the list.
pub record NetStands {S M : Type 0} (source : Source S M) (n : NetState S) : Type 0 where
  pub gave : RowList
  pub tree : Stands source n.tree gave
  pub edge : IsEdge n.edge n.rows gave (IsDone n.tree)
  pub placed : ArePlaced n.tree
