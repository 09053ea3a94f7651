use Rattle.std.proofs.Common.{rules}
use Rattle.mem_pool.proofs.Kept.{allows_looks}
use Rattle.mem_pool.proofs.Seating.{sees_after}
use Rattle.mem_pool.proofs.steps.look.Goals as goal

pub load-requires : goal.load-requires
load-requires c = search (rules, allows_looks)

pub returns-clause-sees : goal.returns-clause-sees
returns-clause-sees c = sees_after _ _ _ _ c.load.ensures.2.0 c.load.ensures.2.1
