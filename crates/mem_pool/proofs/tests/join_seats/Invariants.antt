use Rattle.std.proofs.Common.{◌≡◌, ◌+◌}
use Rattle.std.specs.Prelude.{All, vec_len}
use Rattle.mem_pool.proofs.tests.join_seats.Given as goal

abbrev pub invariant-loop-worker : goal.invariant-loop-worker
invariant-loop-worker l = (l.first.pool ≡ l.pool) × (l.first.may_split + vec_len l.workers ≡ l.initial.first.may_split + vec_len l.initial.workers) × All (λ w. (w.seat.pool ≡ l.pool) × (w.seat.held ≡ 0) × (w.seat.may_split ≡ 0)) l.workers.items

abbrev pub decreases-loop-worker : goal.decreases-loop-worker
decreases-loop-worker l = vec_len l.workers
