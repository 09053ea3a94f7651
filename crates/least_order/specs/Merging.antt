-- Parts kept as one item each: its greatest count, and the variables of all its items.
use Rattle.std.specs.Prelude.{ℕ, ◌*◌, ◌==◌, max, not, Bool, true, false, nat_lt, if◌then◌else◌, List, [], ◌∷◌, ◌++◌, filter, fold, bit_and, bit_or}
use Rattle.least_order.specs.declared.item.Item.{Item}
use Rattle.least_order.specs.Items.{shares}

abbrev pub joined : Item → Item → Item
joined part other = record { count = max part.count other.count; vars = bit_or part.vars other.vars }

-- the parts with one item more
abbrev pub merged_parts : Item → List Item → List Item
merged_parts item parts =
    filter (λ part. not (shares part item)) parts ++ fold joined item (filter (λ part. shares part item) parts) ∷ []

abbrev pub product_of_counts : List Item → ℕ
product_of_counts [] = 1
product_of_counts (part ∷ parts) = part.count * product_of_counts parts

-- the variables of all items
abbrev pub joined_vars : List Item → ℕ
joined_vars [] = 0
joined_vars (item ∷ items) = bit_or item.vars (joined_vars items)

-- the item has one of the variables
abbrev pub has_variable_of : ℕ → Item → Bool
has_variable_of vars item = not (bit_and item.vars vars == 0)

-- the item is taken before one of a lower position
abbrev pub is_better_than : ℕ → Item → Item → Bool
is_better_than vars item earlier =
    if has_variable_of vars item
    then (if has_variable_of vars earlier then nat_lt item.count earlier.count else true)
    else (if has_variable_of vars earlier then false else nat_lt item.count earlier.count)
