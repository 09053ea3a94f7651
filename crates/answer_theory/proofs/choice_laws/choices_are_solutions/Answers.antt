use Rattle.answer_theory.proofs.Choices.{items_picked, choices_solutions, choices_counted}
use Rattle.answer_theory.proofs.choice_laws.choices_are_solutions.Goals as goal

pub returns-clause-picks : goal.returns-clause-picks
returns-clause-picks g c = items_picked

pub returns-clause-solutions : goal.returns-clause-solutions
returns-clause-solutions g c = choices_solutions

pub returns-clause-count : goal.returns-clause-count
returns-clause-count g c = choices_counted
