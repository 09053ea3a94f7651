use Rattle.std.proofs.Common.{◌≡◌}
use Rattle.std.specs.Prelude.{All}
use Rattle.mem_pool.proofs.tests.run_workers.Given as goal

abbrev pub invariant-loop-worker : goal.invariant-loop-worker
invariant-loop-worker g l = All (λ w. (w.seat.pool ≡ l.pool) × (w.seat.held ≡ 0) × (w.seat.may_split ≡ 0)) l.workers
