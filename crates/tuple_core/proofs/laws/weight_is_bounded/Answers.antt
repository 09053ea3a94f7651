use Rattle.tuple_core.proofs.Weighing.{row_bounded}
use Rattle.tuple_core.proofs.laws.weight_is_bounded.Goals as goal

pub returns : goal.returns
returns c = row_bounded
