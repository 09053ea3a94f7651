-- The greedy order: at each place the best of the items that are left.
use Rattle.std.specs.Prelude.{◌≡◌, ◌≢◌, ℕ, ◌<◌, ◌⊎◌, true, false, List, [], ◌∷◌, Some, slice_get}
use Rattle.least_order.specs.declared.item.Item.{Item}
use Rattle.least_order.specs.Items.{touches}
use Rattle.least_order.specs.Orders.{Order}
use Rattle.least_order.specs.Sets.{is_in, members, with_position}

-- An item is taken before another: it alone shares a variable with those placed, or they are alike in that and it has the
-- lesser count, or the same count and the lower position.
abbrev pub IsTakenBefore : List Item → ℕ → Item → ℕ → Item → Type 0
IsTakenBefore placed position item position' other =
    ((touches item placed ≡ true) × (touches other placed ≡ false))
    ⊎ ((touches item placed ≡ touches other placed)
    × ((item.count < other.count) ⊎ ((item.count ≡ other.count) × (position < position'))))

-- the position is left, and its item is taken before each other that is left
pub record IsGreedyNext (items : List Item) (set position : ℕ) : Type 0 where
  pub item : Item
  pub is : slice_get items position ≡ Some item
  pub left : is_in set position ≡ false
  pub best : (position' : ℕ) (other : Item) → slice_get items position' ≡ Some other → is_in set position' ≡ false
      → position' ≢ position → IsTakenBefore (members items set) position item position' other

-- each of the positions is the greedy next one, on top of a set
abbrev pub IsGreedyFrom : List Item → ℕ → Order → Type 0
IsGreedyFrom items set [] = Unit {0}
IsGreedyFrom items set (position ∷ order) =
    IsGreedyNext items set position × IsGreedyFrom items (with_position set position) order

abbrev pub IsGreedyOrder : List Item → Order → Type 0
IsGreedyOrder items order = IsGreedyFrom items 0 order
