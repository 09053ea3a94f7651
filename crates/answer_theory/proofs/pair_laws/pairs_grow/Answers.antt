use Rattle.answer_theory.proofs.Pairs.{pairs_append_left, pairs_append_right, pairs_filtered, bag_pairs}
use Rattle.answer_theory.proofs.pair_laws.pairs_grow.Goals as goal

pub returns-clause-left : goal.returns-clause-left
returns-clause-left g c = pairs_append_left

pub returns-clause-right : goal.returns-clause-right
returns-clause-right g c = pairs_append_right

pub returns-clause-filtered : goal.returns-clause-filtered
returns-clause-filtered g c = pairs_filtered

pub returns-clause-bags : goal.returns-clause-bags
returns-clause-bags g c = λ p ls ms rs ss h k. bag_pairs p h k
