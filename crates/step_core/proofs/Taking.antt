-- What a net that stands says of a join's edges.
use Rattle.std.proofs.Common.{ℕ, List, sym, subst}
use Rattle.med_base.specs.declared.outside.source.Source.{Ghosts as Source}
use Rattle.tuple_core.specs.Values.{RowList}
use Rattle.answer_theory.proofs.Bags.{bag_sym}
use Rattle.row_match.specs.declared.shape.Side.{Side}
use Rattle.row_match.specs.declared.shape.Side.TheVariants as side
use Rattle.join_core.specs.State.{stored_rows}
use Rattle.step_core.specs.Joins.{MayTake}
use Rattle.step_core.specs.Nets.{JoinState, NetTree, fork, variables}
use Rattle.step_core.specs.Standing.{AreWide, IsDone, Stands, TakesFrom}
use Rattle.step_core.proofs.Wide.{wide_parts, wide_same}

pub may_take_of : (which : Side) (j : JoinState) (us vs : List ℕ) (L R : Type 0) (from_left from_right : RowList) → TakesFrom j us vs L R from_left from_right → MayTake which j
may_take_of side.Left j us vs L R from_left from_right h = record {
  ended = h.left_ended;
  last = λ e. (h.left.last e).1;
  wide = subst (λ ws. AreWide ws j.left.rows) (sym h.left_variables) (wide_parts us (stored_rows side.Left j.joining) j.left.rows (wide_same us (bag_sym h.left.rows) h.left_wide)).1;
}
may_take_of side.Right j us vs L R from_left from_right h = record {
  ended = h.right_ended;
  last = λ e. (h.right.last e).1;
  wide = subst (λ ws. AreWide ws j.right.rows) (sym h.right_variables) (wide_parts vs (stored_rows side.Right j.joining) j.right.rows (wide_same vs (bag_sym h.right.rows) h.right_wide)).1;
}

pub may_take : {S M : Type 0} (source : Source S M) (which : Side) (j : JoinState) (a b : NetTree S) → ((gave : RowList) × Stands source (fork j a b) gave) → MayTake which j
may_take source which j a b h = may_take_of which j (variables a) (variables b) (IsDone a) (IsDone b) h.1.0 h.1.1 h.1.2.1.1.0
