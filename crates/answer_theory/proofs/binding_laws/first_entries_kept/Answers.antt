use Rattle.answer_theory.proofs.Bindings.{first_entries_append, first_entries_first_entries, value_of_first_entries, bound_first_entries}
use Rattle.answer_theory.proofs.binding_laws.first_entries_kept.Goals as goal

pub returns-clause-glued : goal.returns-clause-glued
returns-clause-glued g c = first_entries_append

pub returns-clause-again : goal.returns-clause-again
returns-clause-again g c = first_entries_first_entries

pub returns-clause-values : goal.returns-clause-values
returns-clause-values g c = value_of_first_entries

pub returns-clause-bound : goal.returns-clause-bound
returns-clause-bound g c = bound_first_entries
