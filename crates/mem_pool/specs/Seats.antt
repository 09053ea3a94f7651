-- What contracts see of a pool, of its seats, and of what their calls answer.
use Rattle.std.specs.Prelude.{◌≡◌, ℕ, ◌+◌, ◌-◌, ◌*◌, ◌≤◌, [], max}
use Rattle.atomic_table.specs.Seated.{TableId}
use Rattle.atomic_table.specs.Table.{Me}
use Rattle.mem_pool.specs.declared.rule.SeatView.{SeatView}
use Rattle.mem_pool.specs.Rule.{greatest_take, most_seats}

-- a pool: which one it is, and its capacity
pub record Pooled : Type 0 where
  pub table : TableId
  pub cap : ℕ

pub record Seated : Type 0 where
  -- the pool that it is a seat of
  pub pool : Pooled
  -- what it took and hasn't released
  pub held : ℕ
  -- how many seats may still be split from it
  pub may_split : ℕ
  -- the greatest sum that it held, or would have held with a take that was refused
  pub most : ℕ
  -- the greatest sum of what was in use and what was asked for, over its takes that were refused
  pub peak : ℕ
  -- how many takes it made, granted or refused
  pub takes : ℕ

abbrev pub seated_of : TableId → SeatView → Seated
seated_of table v = record {
  pool = record { table = table; cap = v.cap };
  held = v.held;
  may_split = v.may_split;
  most = v.most;
  peak = v.peak;
  takes = v.takes;
}

-- a seat between two calls: nothing is pending
pub record IsResting (me : Me (Unit {0}) SeatView) : Type 0 where
  pub idle : me.0.pending ≡ 0
  pub live : me.0.live ≡ 1
  pub bare : me.1 ≡ []

abbrev pub first_seat : Pooled → Seated
first_seat pool = record { pool = pool; held = 0; may_split = most_seats - 1; most = 0; peak = 0; takes = 0 }

abbrev pub new_seat : Pooled → Seated
new_seat pool = record { pool = pool; held = 0; may_split = 0; most = 0; peak = 0; takes = 0 }

-- after a take of k that was granted
abbrev pub gained : ℕ → Seated → Seated
gained k seat = record seat { held = seat.held + k; most = max seat.most (seat.held + k); takes = seat.takes + 1 }

-- after a take of k that was refused, `seen` being in use
abbrev pub missed : ℕ → ℕ → Seated → Seated
missed k seen seat = record seat {
  most = max seat.most (seat.held + k);
  peak = max seat.peak (seen + k);
  takes = seat.takes + 1;
}

-- after the other seat came back to it, with all that it held
abbrev pub joined : Seated → Seated → Seated
joined seat other = record seat {
  held = seat.held + other.held;
  may_split = seat.may_split + other.may_split + 1;
  most = seat.most + other.most;
  peak = max seat.peak other.peak;
  takes = seat.takes + other.takes;
}

-- all other seats came back to this one, since no more could be split from it at the start
abbrev pub IsAlone : Seated → Type 0
IsAlone seat = seat.may_split ≡ most_seats - 1

-- What a seat knows where `seen` is in use. One that is alone holds all of it, and no take ever asked for more with what was in use than the seats asked for in all.
pub record Sees (seen : ℕ) (seat : Seated) : Type 0 where
  pub held : seat.held ≤ seat.pool.cap
  pub counted : seat.held ≤ seen
  pub bound : seen ≤ seat.pool.cap + most_seats * greatest_take
  pub all : IsAlone seat → seen ≡ seat.held
  pub peak : IsAlone seat → seat.peak ≤ seat.most
