use Rattle.join_core.proofs.Stepping.{one_pair_more, one_row_more, step_then}
use Rattle.join_core.proofs.laws.joins_step.Goals as goal

pub returns-clause-then : goal.returns-clause-then
returns-clause-then c = step_then

pub returns-clause-pairs : goal.returns-clause-pairs
returns-clause-pairs c = one_pair_more

pub returns-clause-given : goal.returns-clause-given
returns-clause-given c = one_row_more
