-- How many rows a join of some items is taken to have.
use Rattle.std.specs.Prelude.{ℕ, ◌*◌, ◌^◌, max, min, not, List, [], ◌∷◌, ◌++◌, filter, flat_map}
use Rattle.least_order.specs.declared.item.Item.{Item}
use Rattle.least_order.specs.Items.{touches}
use Rattle.least_order.specs.Sets.{members}

-- The linked parts of the items: with one item more, the parts that it doesn't touch stay, and it and those that it
-- touches are one part. `parts_are_linked` says in other words which parts these are.
abbrev pub parts_of : List Item → List (List Item)
parts_of [] = []
parts_of (item ∷ items) =
    filter (λ part. not (touches item part)) (parts_of items)
    ++ (item ∷ flat_map (λ part. part) (filter (touches item) (parts_of items))) ∷ []

-- the greatest count among the items
abbrev pub greatest_count : List Item → ℕ
greatest_count [] = 0
greatest_count (item ∷ items) = max item.count (greatest_count items)

-- the greatest counts of the parts, multiplied
abbrev pub product_of : List (List Item) → ℕ
product_of [] = 1
product_of (part ∷ parts) = greatest_count part * product_of parts

-- no size is counted as more than this
abbrev pub greatest_size : ℕ
greatest_size = 2 ^ 60

-- the size of a set: each linked part counts as its greatest item, and parts that aren't linked make a product
unfoldable pub size_of : List Item → ℕ → ℕ
size_of items set = min greatest_size (product_of (parts_of (members items set)))
