-- What the linked parts of items are, in other words than how they are gathered.
use Rattle.std.specs.Prelude.{◌≡◌, ◌⊎◌, true, false, List, [], ◌∷◌}
use Rattle.std.specs.List.{AllByRecursion}
use Rattle.least_order.specs.declared.item.Item.{Item}
use Rattle.least_order.specs.Items.{shares, touches}

-- the item stands in the list
abbrev pub IsAmong : Item → List Item → Type 0
IsAmong item [] = ⊥
IsAmong item (first ∷ items) = (item ≡ first) ⊎ IsAmong item items

-- a chain from an item to another: each stands in the part, and shares a variable with the one before it
abbrev pub IsChain : List Item → Item → List Item → Item → Type 0
IsChain part item [] last = item ≡ last
IsChain part item (next ∷ chain) last = IsAmong next part × (shares item next ≡ true) × IsChain part next chain last

-- an item stands in the part
abbrev pub HasItem : List Item → Type 0
HasItem [] = ⊥
HasItem (item ∷ part) = Unit {0}

-- any two items of the part are linked by a chain in it
pub record IsLinked (part : List Item) : Type 0 where
  pub chain : (item other : Item) → IsAmong item part → IsAmong other part → (chain : List Item) × IsChain part item chain other

-- no item of the one shares a variable with one of the other
pub record AreApart (part other : List Item) : Type 0 where
  pub nothing_shared : (item : Item) → IsAmong item part → touches item other ≡ false

-- so are any two of the parts
abbrev pub AreAllApart : List (List Item) → Type 0
AreAllApart [] = Unit {0}
AreAllApart (part ∷ parts) = AllByRecursion (AreApart part) parts × AreAllApart parts
