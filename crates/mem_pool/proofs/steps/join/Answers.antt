use Rattle.std.proofs.Common.{rules}
use Rattle.mem_pool.proofs.Kept.{joins}
use Rattle.mem_pool.proofs.steps.join.Goals as goal

pub join_seat-requires : goal.join_seat-requires
join_seat-requires c = search (rules, joins)
