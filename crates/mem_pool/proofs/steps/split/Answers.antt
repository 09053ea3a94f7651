use Rattle.std.proofs.Common.{rules}
use Rattle.mem_pool.proofs.Kept.{splits}
use Rattle.mem_pool.proofs.steps.split.Goals as goal

pub split_seat-requires : goal.split_seat-requires
split_seat-requires c = search (rules, splits)
