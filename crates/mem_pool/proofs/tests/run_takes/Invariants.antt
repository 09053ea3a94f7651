use Rattle.std.proofs.Common.{◌≡◌}
use Rattle.mem_pool.specs.Seats.{IsAlone}
use Rattle.mem_pool.proofs.tests.run_takes.Given as goal

abbrev pub invariant-loop-take : goal.invariant-loop-take
invariant-loop-take g l = (l.seat.pool ≡ l.pool) × (l.seat.held ≡ l.all) × IsAlone l.seat
