-- Orders of items, what they cost, and which is the first of the least.
use Rattle.std.specs.Prelude.{◌≡◌, ℕ, ◌<◌, ◌≤◌, ◌==◌, ◌⊎◌, nat_lt, if◌then◌else◌, List, [], ◌∷◌, drop, length, count_by, sum_by}
use Rattle.least_order.specs.declared.item.Item.{Item}
use Rattle.least_order.specs.Sets.{with_position}
use Rattle.least_order.specs.Sizes.{size_of}

-- positions of items, in the order in which they are joined
abbrev pub Order : Type 0
Order = List ℕ

-- each position below the count stands in the order once, and nothing else stands there
abbrev pub IsOrder : ℕ → Order → Type 0
IsOrder count order =
    (position : ℕ) → count_by (λ placed. placed == position) order ≡ (if nat_lt position count then 1 else 0)

-- the sets of the first, the first two, .. all positions, on top of a set
abbrev pub sets_along : ℕ → Order → List ℕ
sets_along set [] = []
sets_along set (position ∷ order) = with_position set position ∷ sets_along (with_position set position) order

-- what an order costs: the sizes of the sets that its joins make, so of all but the first
abbrev pub cost_of : List Item → Order → ℕ
cost_of items order = sum_by (size_of items) (drop 1 (sets_along 0 order))

-- no order of the items costs less
abbrev pub NoneCostsLess : List Item → ℕ → Type 0
NoneCostsLess items cost = (order : Order) → IsOrder (length items) order → cost ≤ cost_of items order

-- in the order of lists: a prefix comes before the whole, and else the first difference decides
abbrev pub ComesNoLater : Order → Order → Type 0
ComesNoLater [] other = Unit {0}
ComesNoLater (position ∷ order) [] = ⊥
ComesNoLater (position ∷ order) (first ∷ other) = (position < first) ⊎ ((position ≡ first) × ComesNoLater order other)

-- no order of the same cost comes before it
abbrev pub IsFirstAtCost : List Item → ℕ → Order → Type 0
IsFirstAtCost items cost order =
    (other : Order) → IsOrder (length items) other → cost_of items other ≡ cost → ComesNoLater order other
