use Rattle.answer_theory.proofs.Held.{occurrences_named}
use Rattle.answer_theory.proofs.Rows.{over_values, named_over, over_named, over_is_row, named_first_entries, each_once_distinct}
use Rattle.answer_theory.proofs.row_laws.rows_over.Goals as goal

pub returns-clause-values : goal.returns-clause-values
returns-clause-values g c = over_values

pub returns-clause-named : goal.returns-clause-named
returns-clause-named g c = named_over

pub returns-clause-back : goal.returns-clause-back
returns-clause-back g c = over_named

pub returns-clause-row : goal.returns-clause-row
returns-clause-row g c = over_is_row

pub returns-clause-first_entries : goal.returns-clause-first_entries
returns-clause-first_entries g c = named_first_entries

pub returns-clause-distinct : goal.returns-clause-distinct
returns-clause-distinct g c = each_once_distinct

pub returns-clause-names : goal.returns-clause-names
returns-clause-names g c = occurrences_named
