use Rattle.answer_theory.proofs.Numbers.{bag_any, bag_all, bag_contains}
use Rattle.answer_theory.proofs.bag_laws.bags_tell.Goals as goal

pub returns-clause-any : goal.returns-clause-any
returns-clause-any g c = λ test xs ys h. bag_any test h

pub returns-clause-all : goal.returns-clause-all
returns-clause-all g c = λ test xs ys h. bag_all test h

pub returns-clause-contains : goal.returns-clause-contains
returns-clause-contains g c = λ same d r xs ys h. bag_contains same d r h
