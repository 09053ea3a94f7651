-- Items, and which of them share a variable.
use Rattle.std.specs.Prelude.{ℕ, ◌==◌, not, Bool, List, bit_and}
use Rattle.std.specs.List.{list_any}
use Rattle.least_order.specs.declared.item.Item.{Item}

-- the most items that are put in an order
abbrev pub most_items : ℕ
most_items = 8

-- there is a variable of both items
abbrev pub shares : Item → Item → Bool
shares item other = not (bit_and item.vars other.vars == 0)

-- the item shares a variable with one of the others
abbrev pub touches : Item → List Item → Bool
touches item others = list_any (shares item) others
