use Rattle.answer_theory.proofs.Held.{occurrences_named}
use Rattle.answer_theory.proofs.Rows.{each_once_distinct}
use Rattle.row_match.specs.Patterns.{term_variables}
use Rattle.row_match.proofs.Leaves.{entries_bind}
use Rattle.row_match.proofs.laws.patterns_bind.Goals as goal

pub returns-clause-entries : goal.returns-clause-entries
returns-clause-entries c = entries_bind

pub returns-clause-names : goal.returns-clause-names
returns-clause-names c = λ terms v. occurrences_named (term_variables terms) v

pub returns-clause-distinct : goal.returns-clause-distinct
returns-clause-distinct c = λ terms. each_once_distinct (term_variables terms)
