use Rattle.answer_theory.proofs.Trees.{given_solutions, rows_given}
use Rattle.answer_theory.proofs.tree_laws.trees_give_solutions.Goals as goal

pub returns-clause-solutions : goal.returns-clause-solutions
returns-clause-solutions g c = given_solutions

pub returns-clause-rows : goal.returns-clause-rows
returns-clause-rows g c = rows_given
