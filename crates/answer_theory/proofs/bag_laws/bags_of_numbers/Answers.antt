use Rattle.answer_theory.proofs.Numbers.{bag_counted, bag_each_once}
use Rattle.answer_theory.proofs.bag_laws.bags_of_numbers.Goals as goal

pub returns-clause-counted : goal.returns-clause-counted
returns-clause-counted c = bag_counted

pub returns-clause-each_once : goal.returns-clause-each_once
returns-clause-each_once c = bag_each_once
