use Rattle.answer_theory.proofs.Bindings.{meet_sym, consistent_append, consistent_first_entries, meet_first_entries}
use Rattle.answer_theory.proofs.binding_laws.entries_agree.Goals as goal

pub returns-clause-either_way : goal.returns-clause-either_way
returns-clause-either_way g c = meet_sym

pub returns-clause-together : goal.returns-clause-together
returns-clause-together g c = consistent_append

pub returns-clause-once : goal.returns-clause-once
returns-clause-once g c = consistent_first_entries

pub returns-clause-by_first_entries : goal.returns-clause-by_first_entries
returns-clause-by_first_entries g c = meet_first_entries
