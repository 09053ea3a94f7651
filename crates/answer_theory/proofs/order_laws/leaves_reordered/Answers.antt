use Rattle.answer_theory.proofs.Orders.{solutions_reordered, keys_reordered}
use Rattle.answer_theory.proofs.order_laws.leaves_reordered.Goals as goal

pub returns-clause-values : goal.returns-clause-values
returns-clause-values g c = solutions_reordered

pub returns-clause-keys : goal.returns-clause-keys
returns-clause-keys g c = keys_reordered
