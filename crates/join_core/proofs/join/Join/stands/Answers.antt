use Rattle.std.proofs.Common.{◌≡◌, ◌≤◌, [], length, subst}
use Rattle.answer_theory.specs.Rows.{AreDistinct, glued_variables}
use Rattle.row_match.specs.Shapes.{lacking_variables, vars_of}
use Rattle.join_core.specs.Given.{pairs_left_over}
use Rattle.join_core.specs.State.{AreRowsOver, stored_rows}
use Rattle.join_core.proofs.Finishing.{none_left}
use Rattle.join_core.proofs.Joined.{distinct_front, stored_over}
use Rattle.join_core.proofs.join.Join.stands.Goals as goal

pub returns-clause-rows : goal.returns-clause-rows
returns-clause-rows c side = subst (λ s. AreRowsOver (vars_of side s.shape) (stored_rows side s)) c.self.view_is
    (stored_over c.self.inside.shape c.self.inside.sides c.self.inside.left_ended c.self.inside.right_ended c.self.inside.next c.self.inside.key c.self.inside.probe c.self.invariant side)

pub returns-clause-left : goal.returns-clause-left
returns-clause-left c = subst (λ s. AreDistinct s.shape.left) c.self.view_is
    (distinct_front c.self.inside.shape.left (lacking_variables c.self.inside.shape.left c.self.inside.shape.right) (subst AreDistinct c.variables.ensures c.as_slice-variables.ensures.distinct))

pub returns-clause-short : goal.returns-clause-short
returns-clause-short c = subst (λ s. length (glued_variables s.shape.left s.shape.right) ≤ 64) c.self.view_is (subst (λ vs. length vs ≤ 64) c.variables.ensures c.as_slice-variables.ensures.short)

pub returns-clause-none_left : goal.returns-clause-none_left
returns-clause-none_left c = subst (λ s. pairs_left_over s ≡ []) c.self.view_is (none_left c.self.inside.shape c.self.inside.sides c.self.inside.left_ended c.self.inside.right_ended c.self.inside.next c.self.inside.probe)
