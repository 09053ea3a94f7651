use Rattle.std.proofs.Common.{sym, ap₂, subst, ◌∙◌}
use Rattle.answer_theory.specs.Rows.{glued_variables}
use Rattle.answer_theory.proofs.Few.{glued_few}
use Rattle.row_match.specs.Patterns.{most_variables}
use Rattle.step_core.specs.Planting.{AreFew}
use Rattle.step_core.proofs.Suiting.{glued_below}
use Rattle.step_core.proofs.planting.join_of.Goals as goal

pub new-requires : goal.new-requires
new-requires c = record { short = glued_few most_variables c.args.left.now c.args.right.now c.as_slice-left.ensures.distinct c.as_slice-right.ensures.distinct c.requires.left c.requires.right }

pub returns-clause-few : goal.returns-clause-few
returns-clause-few c = subst (λ vs. AreFew vs) (sym (c.in_ok-variables.ensures ∙ c.variables.ensures ∙ ap₂ glued_variables c.in_ok-shape.ensures.left c.in_ok-shape.ensures.right)) (glued_below c.args.left.now c.args.right.now c.requires.left c.requires.right)
