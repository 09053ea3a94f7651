use Rattle.answer_theory.proofs.Held.{held_rows}
use Rattle.answer_theory.proofs.Trees.{fragments_solutions, finished_holds}
use Rattle.answer_theory.proofs.tree_laws.fragments_expand.Goals as goal

pub returns-clause-solutions : goal.returns-clause-solutions
returns-clause-solutions g c = fragments_solutions

pub returns-clause-holds : goal.returns-clause-holds
returns-clause-holds g c = finished_holds

pub returns-clause-rows : goal.returns-clause-rows
returns-clause-rows g c = held_rows
