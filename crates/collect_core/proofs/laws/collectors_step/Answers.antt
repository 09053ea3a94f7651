use Rattle.collect_core.proofs.Leaves.{step_none, step_then}
use Rattle.collect_core.proofs.laws.collectors_step.Goals as goal

pub returns-clause-none : goal.returns-clause-none
returns-clause-none c = step_none

pub returns-clause-then : goal.returns-clause-then
returns-clause-then c = step_then
