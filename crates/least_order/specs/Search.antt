-- How the first order of least cost is found, from the largest sets down.
use Rattle.std.specs.Prelude.{◌≡◌, ◌≢◌, ℕ, ◌-◌, ◌*◌, ◌^◌, ◌<◌, ◌≤◌, ◌⊎◌, true, false, List, [], ◌∷◌, length, slice_get, slice_index, Option, Some, None, MatchOption, nat_le, if◌then◌else◌}
use Rattle.least_order.specs.declared.item.Item.{Item}
use Rattle.least_order.specs.declared.least.Next.{Next}
use Rattle.least_order.specs.Certificates.{rest_through}
use Rattle.least_order.specs.Greedy.{IsGreedyNext, IsTakenBefore}
use Rattle.least_order.specs.Orders.{Order}
use Rattle.least_order.specs.Sets.{greatest_set, is_in, members, with_position}
use Rattle.least_order.specs.Sizes.{greatest_size}

-- each position below the count is in the set
abbrev pub HasNoneLeft : ℕ → ℕ → Type 0
HasNoneLeft count set = (position : ℕ) → position < count → is_in set position ≡ true

-- of the positions below the count that are left, it is the first by which the rest costs least, and so much it costs
pub record IsFirstBest (items : List Item) (rest : List ℕ) (count set position cost : ℕ) : Type 0 where
  pub within : position < count
  pub left : is_in set position ≡ false
  pub is : cost ≡ rest_through items rest set position
  pub least : (other : ℕ) → other < count → is_in set other ≡ false → cost ≤ rest_through items rest set other
  pub first : (other : ℕ) → other < position → is_in set other ≡ false → cost < rest_through items rest set other

-- the rest of the set is the least
abbrev pub IsLeastAt : List Item → List ℕ → ℕ → Type 0
IsLeastAt items rest set =
    (HasNoneLeft (length items) set × (slice_index rest set ≡ 0))
    ⊎ ((position : ℕ) × IsFirstBest items rest (length items) set position (slice_index rest set))

-- so are those of all sets from a number on
abbrev pub AreLeast : List Item → List ℕ → ℕ → Type 0
AreLeast items rest from = (set : ℕ) → from ≤ set → set < 2 ^ length items → IsLeastAt items rest set

-- the more items a set has, the greater is its number, and the less is left to pay
abbrev pub IsBounded : List ℕ → Type 0
IsBounded rest = (set : ℕ) → slice_index rest set ≤ (greatest_set - set) * greatest_size

-- the positions are the first best ones, on top of a set, until none is left
abbrev pub LeadsBest : List Item → List ℕ → ℕ → Order → Type 0
LeadsBest items rest set [] = HasNoneLeft (length items) set
LeadsBest items rest set (position ∷ order) =
    ((cost : ℕ) × IsFirstBest items rest (length items) set position cost) × LeadsBest items rest (with_position set position) order

-- the one of two that costs less, or the first where they cost the same
abbrev pub lesser_of : Option Next → Next → Next
lesser_of None next = next
lesser_of (Some best) next = if nat_le best.cost next.cost then best else next

-- what was found so far of the first best
abbrev pub IsBestSoFar : List Item → List ℕ → ℕ → ℕ → Option Next → Type 0
IsBestSoFar items rest set count best =
    MatchOption best (HasNoneLeft count set) (λ next. IsFirstBest items rest count set next.position next.cost)

-- of the positions below the count that are left, its item is taken first
pub record IsGreedyBelow (items : List Item) (set count position : ℕ) : Type 0 where
  pub item : Item
  pub is : slice_get items position ≡ Some item
  pub within : position < count
  pub left : is_in set position ≡ false
  pub best : (position' : ℕ) (other : Item) → position' < count → slice_get items position' ≡ Some other
      → is_in set position' ≡ false → position' ≢ position → IsTakenBefore (members items set) position item position' other

-- what was found so far of the greedy next one
abbrev pub IsGreedySoFar : List Item → ℕ → ℕ → Option ℕ → Type 0
IsGreedySoFar items set count best = MatchOption best (HasNoneLeft count set) (IsGreedyBelow items set count)

-- the positions are the greedy next ones, on top of a set, until none is left
abbrev pub LeadsGreedy : List Item → ℕ → Order → Type 0
LeadsGreedy items set [] = HasNoneLeft (length items) set
LeadsGreedy items set (position ∷ order) =
    (IsGreedyNext items set position × (position < length items)) × LeadsGreedy items (with_position set position) order
