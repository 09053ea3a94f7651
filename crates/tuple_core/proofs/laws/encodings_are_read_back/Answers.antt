use Rattle.std.proofs.Common.{ap, option_map}
use Rattle.tuple_core.specs.Encoding.{row_weight}
use Rattle.tuple_core.proofs.Back.{row_back}
use Rattle.tuple_core.proofs.laws.encodings_are_read_back.Goals as goal

pub returns : goal.returns
returns c = λ row rest fits. ap (option_map (λ x. (x.0, row_weight x.0))) (row_back row rest fits)
