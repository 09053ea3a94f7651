use Rattle.std.proofs.Common.{◌≡◌}
use Rattle.mem_pool.proofs.tests.work.Given as goal

abbrev pub invariant-loop-turn : goal.invariant-loop-turn
invariant-loop-turn g l = (l.seat.pool ≡ l.pool) × (l.seat.held ≡ l.all) × (l.seat.may_split ≡ l.initial.seat.may_split)
