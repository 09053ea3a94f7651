use Rattle.answer_theory.proofs.Rows.{over_meet, met_keys, keys_meet}
use Rattle.answer_theory.proofs.row_laws.rows_meet.Goals as goal

pub returns-clause-shared : goal.returns-clause-shared
returns-clause-shared g c = over_meet

pub returns-clause-equal_keys : goal.returns-clause-equal_keys
returns-clause-equal_keys g c = met_keys

pub returns-clause-by_keys : goal.returns-clause-by_keys
returns-clause-by_keys g c = keys_meet
