use Rattle.std.proofs.Common.{◌≡◌, ◌&&◌, [], sym, ap, subst, ◌∙◌}
use Rattle.answer_theory.specs.Bags.{SameBag}
use Rattle.row_match.specs.declared.shape.Side.TheVariants as which
use Rattle.join_core.specs.Given.{given_rows, joined_rows, pairs_owed}
use Rattle.join_core.specs.State.{stored_rows}
use Rattle.join_core.specs.Steps.{is_finished}
use Rattle.join_core.proofs.Finishing.{finished_all, finished_is, finished_owes, none_is}
use Rattle.join_core.proofs.join.Join.finished.Goals as goal

pub returns-clause-finished : goal.returns-clause-finished
returns-clause-finished c =
    c.are_all.ensures
    ∙ ap (λ b. (c.self.inside.left_ended && c.self.inside.right_ended) && b) (none_is c.self.inside.probe c.is_none.result c.is_none.ensures)
    ∙ finished_is c.self.inside.shape c.self.inside.sides c.self.inside.left_ended c.self.inside.right_ended c.self.inside.next c.self.inside.probe
    ∙ ap is_finished c.self.view_is

pub returns-clause-all : goal.returns-clause-all
returns-clause-all c = λ e. subst (λ s. SameBag (given_rows s) (joined_rows s.shape (stored_rows which.Left s) (stored_rows which.Right s))) c.self.view_is
    (finished_all c.self.inside.shape c.self.inside.sides c.self.inside.left_ended c.self.inside.right_ended c.self.inside.next c.self.inside.key c.self.inside.probe c.self.invariant
    (sym (c.are_all.ensures ∙ ap (λ b. (c.self.inside.left_ended && c.self.inside.right_ended) && b) (none_is c.self.inside.probe c.is_none.result c.is_none.ensures)) ∙ e))

pub returns-clause-nothing_owed : goal.returns-clause-nothing_owed
returns-clause-nothing_owed c = λ e. subst (λ s. pairs_owed s ≡ []) c.self.view_is
    (finished_owes c.self.inside.shape c.self.inside.sides c.self.inside.left_ended c.self.inside.right_ended c.self.inside.next c.self.inside.probe
    (sym (c.are_all.ensures ∙ ap (λ b. (c.self.inside.left_ended && c.self.inside.right_ended) && b) (none_is c.self.inside.probe c.is_none.result c.is_none.ensures)) ∙ e))
