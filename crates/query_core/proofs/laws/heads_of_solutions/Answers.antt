use Rattle.query_core.proofs.Heads.{bindings_solutions, heads_solutions}
use Rattle.query_core.proofs.laws.heads_of_solutions.Goals as goal

pub returns-clause-bindings : goal.returns-clause-bindings
returns-clause-bindings c = bindings_solutions

pub returns-clause-heads : goal.returns-clause-heads
returns-clause-heads c = heads_solutions
