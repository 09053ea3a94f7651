use Rattle.tuple_core.proofs.Weighing.{row_weighs}
use Rattle.tuple_core.proofs.laws.weight_is_a_length.Goals as goal

pub returns : goal.returns
returns c = row_weighs
