use Rattle.answer_theory.proofs.Pairs.{pairs_parted, pairs_added, pairs_alike}
use Rattle.answer_theory.proofs.pair_laws.pairs_parted.Goals as goal

pub returns-clause-parted : goal.returns-clause-parted
returns-clause-parted g c = pairs_parted

pub returns-clause-added : goal.returns-clause-added
returns-clause-added g c = pairs_added

pub returns-clause-alike : goal.returns-clause-alike
returns-clause-alike g c = pairs_alike
