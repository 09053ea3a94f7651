-- The seven kinds of step, each by what it does to the views of the seats: two takes, an undo, a release, a look, a split and a join.
use Rattle.std.specs.Prelude.{◌≡◌, ℕ, ◌+◌, ◌-◌, ◌^◌, ◌<◌, ◌≤◌, max}
use Rattle.atomic_table.specs.Seated.{TableId}
use Rattle.atomic_table.specs.Table.{Me, Step}
use Rattle.mem_pool.specs.declared.rule.SeatView.{SeatView}
use Rattle.mem_pool.specs.Rule.{most_seats}
use Rattle.mem_pool.specs.Seats.{Sees, seated_of}

-- the first seat of a pool
abbrev pub first_view : ℕ → SeatView
first_view cap = record { cap = cap; held = 0; pending = 0; may_split = most_seats - 1; most = 0; peak = 0; takes = 0; live = 1 }

-- after a take of k that fits, of a seat with nothing pending
abbrev pub granted : ℕ → SeatView → SeatView
granted k v = record v { held = v.held + k; most = max v.most (v.held + k); takes = v.takes + 1 }

-- after a take of k that doesn't fit, where the word was `seen`: k is pending until it is undone
abbrev pub refused : ℕ → ℕ → SeatView → SeatView
refused k seen v = record v {
  pending = k;
  most = max v.most (v.held + k);
  peak = max v.peak (seen + k);
  takes = v.takes + 1;
}

abbrev pub undone : ℕ → SeatView → SeatView
undone k v = record v { pending = v.pending - k }

abbrev pub released : ℕ → SeatView → SeatView
released k v = record v { held = v.held - k }

-- a seat that one was split from, and that one
abbrev pub left_view : SeatView → SeatView
left_view v = record v { may_split = v.may_split - 1 }

abbrev pub new_view : SeatView → SeatView
new_view v = record { cap = v.cap; held = 0; pending = 0; may_split = 0; most = 0; peak = 0; takes = 0; live = 1 }

-- a seat that another was joined to, and what is left of that other
abbrev pub joined_view : SeatView → SeatView → SeatView
joined_view v w = record v {
  held = v.held + w.held;
  may_split = v.may_split + w.may_split + 1;
  most = v.most + w.most;
  peak = max v.peak w.peak;
  takes = v.takes + w.takes;
}

abbrev pub spent_view : SeatView
spent_view = record { cap = 0; held = 0; pending = 0; may_split = 0; most = 0; peak = 0; takes = 0; live = 0 }

-- what a seat is told of a take of k, where the word was `seen`
pub record IsTake (k seen : ℕ) (v w : SeatView) : Type 0 where
  pub small : seen < 2 ^ 61
  pub sees : (table : TableId) → Sees seen (seated_of table v)
  pub fits : seen + k ≤ v.cap → w ≡ granted k v
  pub passes : v.cap < seen + k → w ≡ refused k seen v

-- Each as the table tells it: of the step, the seat before, the number found and the seat after.
abbrev pub Takes : Step (Unit {0}) → Me (Unit {0}) SeatView → ℕ → Me (Unit {0}) SeatView → Type 0
Takes step before seen after = IsTake step.first seen before.0 after.0 × (after.1 ≡ before.1)

abbrev pub Undoes : Step (Unit {0}) → Me (Unit {0}) SeatView → ℕ → Me (Unit {0}) SeatView → Type 0
Undoes step before _ after = after ≡ (undone step.first before.0, before.1)

abbrev pub Releases : Step (Unit {0}) → Me (Unit {0}) SeatView → ℕ → Me (Unit {0}) SeatView → Type 0
Releases step before _ after = after ≡ (released step.first before.0, before.1)

abbrev pub Looks : Step (Unit {0}) → Me (Unit {0}) SeatView → ℕ → Me (Unit {0}) SeatView → Type 0
Looks _ before seen after = ((table : TableId) → Sees seen (seated_of table before.0)) × (after ≡ before)
