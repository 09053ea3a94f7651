-- The rule of the pool. It holds between any two steps, whichever threads make them.
use Rattle.std.specs.Prelude.{◌≡◌, ℕ, ◌+◌, ◌^◌, ◌≤◌, length, slice_index, sum_by}
use mathlib.Core.Option.{some}
use lib.ListN.{get_elem?}
use Rattle.atomic_table.specs.Table.{State}
use Rattle.mem_pool.specs.declared.rule.SeatView.{SeatView}

abbrev pub greatest_capacity : ℕ
greatest_capacity = 2 ^ 60

-- the most that one take asks for
abbrev pub greatest_take : ℕ
greatest_take = 4194625

abbrev pub most_seats : ℕ
most_seats = 64

-- what a seat has added to the word
abbrev pub added_by : SeatView → ℕ
added_by v = v.held + v.pending

-- the seat, and those that may still be split from it
abbrev pub seats_of : SeatView → ℕ
seats_of v = v.live + v.may_split

-- what the rule says of one seat, where the numbers `most` of all seats add up to `most`
pub record IsFairSeat (cap most : ℕ) (v : SeatView) : Type 0 where
  pub once : v.live ≤ 1
  pub of_pool : v.live ≡ 1 → v.cap ≡ cap
  pub held : v.held ≤ cap
  pub pending : v.pending ≤ greatest_take
  pub topped : added_by v ≤ v.most
  pub peaked : v.peak ≤ most
  pub spent : v.live ≡ 0 → v.held + v.pending + v.may_split + v.most + v.peak ≡ 0

pub record PoolRule (cap : ℕ) (s : State (Unit {0}) SeatView) : Type 0 where
  pub one_word : length s.words ≡ 1
  pub capacity : cap ≤ greatest_capacity
  -- the word is what all seats have added
  pub word : slice_index s.words 0 ≡ sum_by added_by s.views
  -- all that is held fits the capacity
  pub held : sum_by (λ v. v.held) s.views ≤ cap
  pub seats : sum_by seats_of s.views ≤ most_seats
  pub each : (id : ℕ) (v : SeatView) → get_elem? s.views id ≡ some v → IsFairSeat cap (sum_by (λ u. u.most) s.views) v
