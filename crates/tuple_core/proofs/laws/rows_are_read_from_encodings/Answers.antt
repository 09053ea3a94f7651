use Rattle.tuple_core.proofs.Sound.{row_at_read}
use Rattle.tuple_core.proofs.laws.rows_are_read_from_encodings.Goals as goal

pub returns-clause-fits : goal.returns-clause-fits
returns-clause-fits c = λ bytes row count small read. (row_at_read bytes row count small read).fits

pub returns-clause-encoding : goal.returns-clause-encoding
returns-clause-encoding c = λ bytes row count small read. (row_at_read bytes row count small read).encoding
