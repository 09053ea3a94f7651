use Rattle.tuple_core.proofs.Back.{row_one}
use Rattle.tuple_core.proofs.laws.encodings_tell_rows_apart.Goals as goal

pub returns : goal.returns
returns c = row_one
