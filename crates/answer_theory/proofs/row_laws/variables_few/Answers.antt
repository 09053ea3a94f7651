use Rattle.answer_theory.proofs.Few.{distinct_few, glued_few, occurrences_few}
use Rattle.answer_theory.proofs.row_laws.variables_few.Goals as goal

pub returns-clause-distinct : goal.returns-clause-distinct
returns-clause-distinct c = distinct_few

pub returns-clause-occurrences : goal.returns-clause-occurrences
returns-clause-occurrences c = occurrences_few

pub returns-clause-glued : goal.returns-clause-glued
returns-clause-glued c = glued_few
