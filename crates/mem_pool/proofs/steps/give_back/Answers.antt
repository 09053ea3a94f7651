use Rattle.std.proofs.Common.{rules}
use Rattle.mem_pool.proofs.Kept.{allows_releases}
use Rattle.mem_pool.proofs.steps.give_back.Goals as goal

pub fetch_sub-requires : goal.fetch_sub-requires
fetch_sub-requires c = search (rules, allows_releases)
