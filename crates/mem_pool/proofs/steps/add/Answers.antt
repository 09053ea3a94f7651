use Rattle.std.proofs.Common.{rules}
use Rattle.mem_pool.proofs.Kept.{allows_takes}
use Rattle.mem_pool.proofs.steps.add.Goals as goal

pub fetch_add-requires : goal.fetch_add-requires
fetch_add-requires c = search (rules, allows_takes)

pub returns-clause-sees : goal.returns-clause-sees
returns-clause-sees c = c.fetch_add.ensures.2.0.sees _
