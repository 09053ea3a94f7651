use Rattle.std.proofs.Common.{◌≡◌}
use Rattle.mem_pool.proofs.tests.watch.Given as goal

abbrev pub invariant-loop-look : goal.invariant-loop-look
invariant-loop-look g l = l.seat ≡ l.initial.seat
