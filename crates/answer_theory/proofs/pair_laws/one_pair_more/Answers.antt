use Rattle.answer_theory.proofs.Pairs.{pairs_one_more}
use Rattle.answer_theory.proofs.pair_laws.one_pair_more.Goals as goal

pub returns : goal.returns
returns g c = pairs_one_more
