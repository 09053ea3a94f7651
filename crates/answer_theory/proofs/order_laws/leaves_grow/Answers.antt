use Rattle.answer_theory.proofs.Orders.{solutions_grown, bag_solutions}
use Rattle.answer_theory.proofs.order_laws.leaves_grow.Goals as goal

pub returns-clause-grown : goal.returns-clause-grown
returns-clause-grown g c = solutions_grown

pub returns-clause-bags : goal.returns-clause-bags
returns-clause-bags g c = bag_solutions
