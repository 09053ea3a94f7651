use Rattle.answer_theory.proofs.Bags.{bag_refl, bag_sym, bag_trans, bag_from_permutation, bag_length}
use Rattle.answer_theory.proofs.bag_laws.bags_alike.Goals as goal

pub returns-clause-refl : goal.returns-clause-refl
returns-clause-refl g c = bag_refl

pub returns-clause-sym : goal.returns-clause-sym
returns-clause-sym g c = λ xs ys h. bag_sym h

pub returns-clause-trans : goal.returns-clause-trans
returns-clause-trans g c = λ xs ys zs h k. bag_trans h k

pub returns-clause-permutation : goal.returns-clause-permutation
returns-clause-permutation g c = bag_from_permutation

pub returns-clause-length : goal.returns-clause-length
returns-clause-length g c = λ xs ys h. bag_length h
