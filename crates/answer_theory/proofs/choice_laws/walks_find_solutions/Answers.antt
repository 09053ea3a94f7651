use Rattle.answer_theory.proofs.Choices.{walk_begins, walk_goes, walk_ends}
use Rattle.answer_theory.proofs.choice_laws.walks_find_solutions.Goals as goal

pub returns-clause-begins : goal.returns-clause-begins
returns-clause-begins g c = walk_begins

pub returns-clause-goes : goal.returns-clause-goes
returns-clause-goes g c = walk_goes

pub returns-clause-ends : goal.returns-clause-ends
returns-clause-ends g c = walk_ends
