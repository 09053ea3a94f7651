use Rattle.std.proofs.Common.{rules}
use Rattle.mem_pool.proofs.Kept.{allows_undoes}
use Rattle.mem_pool.proofs.steps.undo.Goals as goal

pub fetch_sub-requires : goal.fetch_sub-requires
fetch_sub-requires c = search (rules, allows_undoes)
