use Rattle.answer_theory.proofs.Rows.{over_glue, glued_length, glued_distinct}
use Rattle.answer_theory.proofs.row_laws.rows_glue.Goals as goal

pub returns-clause-values : goal.returns-clause-values
returns-clause-values g c = over_glue

pub returns-clause-length : goal.returns-clause-length
returns-clause-length g c = glued_length

pub returns-clause-distinct : goal.returns-clause-distinct
returns-clause-distinct g c = glued_distinct
