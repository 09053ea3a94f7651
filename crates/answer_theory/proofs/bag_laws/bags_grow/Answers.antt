use Rattle.answer_theory.proofs.Bags.{bag_append, bag_append_comm, bag_push, bag_middle, bag_cons, bag_uncons}
use Rattle.answer_theory.proofs.bag_laws.bags_grow.Goals as goal

pub returns-clause-append : goal.returns-clause-append
returns-clause-append g c = λ xs ys us vs h k. bag_append h k

pub returns-clause-append_comm : goal.returns-clause-append_comm
returns-clause-append_comm g c = bag_append_comm

pub returns-clause-push : goal.returns-clause-push
returns-clause-push g c = bag_push

pub returns-clause-middle : goal.returns-clause-middle
returns-clause-middle g c = λ xs ys x. bag_middle xs x ys

pub returns-clause-cons : goal.returns-clause-cons
returns-clause-cons g c = λ xs ys x h. bag_cons x h

pub returns-clause-uncons : goal.returns-clause-uncons
returns-clause-uncons g c = λ xs ys x h. bag_uncons x h
