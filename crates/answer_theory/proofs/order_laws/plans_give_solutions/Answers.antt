use Rattle.answer_theory.proofs.Fragments.{plan_solutions}
use Rattle.answer_theory.proofs.order_laws.plans_give_solutions.Goals as goal

pub returns : goal.returns
returns g c = plan_solutions
