use Rattle.answer_theory.proofs.Pairs.{joined_pairs, joined_append_left, joined_append_right}
use Rattle.answer_theory.proofs.Trees.{bag_joined}
use Rattle.answer_theory.proofs.pair_laws.joined_are_pairs.Goals as goal

pub returns-clause-glued : goal.returns-clause-glued
returns-clause-glued g c = joined_pairs

pub returns-clause-left : goal.returns-clause-left
returns-clause-left g c = joined_append_left

pub returns-clause-right : goal.returns-clause-right
returns-clause-right g c = joined_append_right

pub returns-clause-bags : goal.returns-clause-bags
returns-clause-bags g c = λ joins test ls ms rs ss h k. bag_joined joins test h k
