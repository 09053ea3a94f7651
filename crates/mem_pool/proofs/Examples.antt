-- A pool of 10, whose first seat takes 7, is refused 4, and takes 3.
use Rattle.std.proofs.Common.{◌≡◌, [], ◌∷◌, refl}
use Rattle.std.specs.Prelude.{sum_by}
use Rattle.mem_pool.specs.declared.rule.SeatView.{SeatView}
use Rattle.mem_pool.specs.Rule.{added_by, seats_of}
use Rattle.mem_pool.specs.Steps.{first_view, granted, refused, undone, left_view, new_view, joined_view, spent_view}

abbrev after_seven : SeatView
after_seven = granted 7 (first_view 10)

-- the word was 7, and is 11 until the take is undone
abbrev pending_four : SeatView
pending_four = refused 4 7 after_seven

abbrev full : SeatView
full = granted 3 (undone 4 pending_four)

pub word_while_pending : sum_by added_by (pending_four ∷ []) ≡ 11
word_while_pending = refl

-- the refused take is seen in `most` and `peak`
pub full_seat : full ≡ record { cap = 10; held = 10; pending = 0; may_split = 63; most = 11; peak = 11; takes = 3; live = 1 }
full_seat = refl

-- seats are 64 with those that may still be split, also where one was split and came back
pub seats_after_split : sum_by seats_of (left_view full ∷ new_view full ∷ []) ≡ 64
seats_after_split = refl

pub seats_after_join : sum_by seats_of (joined_view (left_view full) (new_view full) ∷ spent_view ∷ []) ≡ 64
seats_after_join = refl
