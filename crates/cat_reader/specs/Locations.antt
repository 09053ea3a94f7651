-- Where a catalogue is broken: a relation, and a column or a group of it.
use Rattle.std.specs.Prelude.{ℕ, ◌+◌, nat_le, nat_lt, ◌==◌, ◌&&◌, ◌||◌, Bool, List, [], ◌∷◌, ◌++◌, map}
use Rattle.std.proofs.Common.{arith}
use Rattle.std.proofs.lemmas.Bool.Decides.{nat_tests}
use Rattle.text_reading.specs.Order.{IsOrder}
use Rattle.cat_reader.specs.declared.locations.Where.{Where}

-- by relation, and then by item
abbrev pub is_up_to : Where → Where → Bool
is_up_to p q = nat_lt p.relation q.relation || (p.relation == q.relation && nat_le p.item q.item)

pub where_order : IsOrder is_up_to
where_order = record {
  itself = λ x. grind (arith, nat_tests);
  total = λ x y h. grind (arith, nat_tests);
  chain = λ x y z h i. grind (arith, nat_tests);
}

abbrev pub item_of : ℕ → ℕ → Where
item_of relation item = record { relation = relation; item = item }

-- the fault is of the relation and of none of its items
abbrev pub of_relation : ℕ → Where
of_relation relation = item_of relation 0

-- the fault is of no relation
abbrev pub of_none : Where
of_none = item_of 0 0

-- the broken items of each relation, from an index on
abbrev pub in_each : {A : Type 0} → (A → List ℕ) → ℕ → List A → List Where
in_each broken_in relation [] = []
in_each broken_in relation (x ∷ xs) = map (item_of relation) (broken_in x) ++ in_each broken_in (relation + 1) xs
