use Rattle.answer_theory.proofs.Fragments.{rest_solutions}
use Rattle.answer_theory.proofs.tree_laws.rest_of_solutions.Goals as goal

pub returns : goal.returns
returns g c = rest_solutions
