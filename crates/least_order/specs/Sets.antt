-- Sets of items, by the items' positions in their list. A set is a number: the sum of 2 ^ i over the positions i in it.
use Rattle.std.specs.Prelude.{ℕ, ◌+◌, ◌-◌, ◌^◌, ◌==◌, Bool, if◌then◌else◌, List, [], ◌∷◌, bit_or}
use Rattle.std.specs.Int.{bit_at}
use Rattle.least_order.specs.declared.item.Item.{Item}
use Rattle.least_order.specs.Items.{most_items}

-- the position is in the set: its bit is set
abbrev pub is_in : ℕ → ℕ → Bool
is_in set position = bit_at set position == 1

-- the set of as many items as may be, which is the greatest of these numbers
abbrev pub greatest_set : ℕ
greatest_set = 2 ^ most_items - 1

-- the set and the position
abbrev pub with_position : ℕ → ℕ → ℕ
with_position set position = bit_or set (2 ^ position)

-- the items in the set, of a list whose first item has this position
abbrev pub members_from : ℕ → List Item → ℕ → List Item
members_from position [] set = []
members_from position (item ∷ items) set =
    if is_in set position then item ∷ members_from (position + 1) items set else members_from (position + 1) items set

-- the items in the set
abbrev pub members : List Item → ℕ → List Item
members items set = members_from 0 items set
