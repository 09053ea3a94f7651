use Rattle.mem_pool.proofs.Seating.{sees_last}
use Rattle.mem_pool.proofs.steps.end.Goals as goal

pub returns : goal.returns
returns c = record { sees = sees_last _ _ _ _ _ _ _ c.requires.rest c.close_with-closed.ensures.values.2 c.word-last.ensures }
