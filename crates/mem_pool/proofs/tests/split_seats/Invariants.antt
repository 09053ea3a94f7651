use Rattle.std.proofs.Common.{◌≡◌, ◌-◌}
use Rattle.std.specs.Prelude.{All, vec_len}
use Rattle.mem_pool.specs.Seats.{new_seat}
use Rattle.mem_pool.proofs.tests.split_seats.Given as goal

abbrev pub invariant-loop-number : goal.invariant-loop-number
invariant-loop-number l = (l.first ≡ record l.initial.first { may_split = l.initial.first.may_split - l.number }) × (vec_len l.workers ≡ l.number) × All (λ w. w.seat ≡ new_seat l.pool) l.workers.items
