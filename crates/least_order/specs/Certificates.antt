-- What shows that an order costs least: for each set of items that may be placed, a number that what is left costs at least.
use Rattle.std.specs.Prelude.{◌≡◌, ℕ, ◌+◌, ◌-◌, ◌^◌, ◌<◌, ◌≤◌, ◌==◌, false, if◌then◌else◌, List, length, slice_index}
use Rattle.least_order.specs.declared.item.Item.{Item}
use Rattle.least_order.specs.declared.certificate.LeastOrder.{LeastOrder}
use Rattle.least_order.specs.Orders.{IsOrder, cost_of}
use Rattle.least_order.specs.Sets.{is_in, with_position}
use Rattle.least_order.specs.Sizes.{size_of}

-- what it costs to place one more item: nothing for the first, and else the size of the set with it
abbrev pub step_of : List Item → ℕ → ℕ → ℕ
step_of items set position = if set == 0 then 0 else size_of items (with_position set position)

-- what is left to pay where this item is placed next
abbrev pub rest_through : List Item → List ℕ → ℕ → ℕ → ℕ
rest_through items rest set position = step_of items set position + slice_index rest (with_position set position)

-- whichever item is placed next, the rest of the set is no more than that
abbrev pub IsBelowStepsFrom : List Item → List ℕ → ℕ → Type 0
IsBelowStepsFrom items rest set =
    (position : ℕ) → position < length items → is_in set position ≡ false
    → slice_index rest set ≤ rest_through items rest set position

abbrev pub IsBelowSteps : List Item → List ℕ → Type 0
IsBelowSteps items rest = (set : ℕ) → set < 2 ^ length items → IsBelowStepsFrom items rest set

-- the certificate holds of the items
pub record IsCertificate (items : List Item) (least : LeastOrder) : Type 0 where
  pub order : IsOrder (length items) least.order
  pub cost : least.cost ≡ cost_of items least.order
  pub len : length least.rest ≡ 2 ^ length items
  pub all_placed : slice_index least.rest (2 ^ length items - 1) ≡ 0
  pub none_placed : slice_index least.rest 0 ≡ least.cost
  pub steps : IsBelowSteps items least.rest
