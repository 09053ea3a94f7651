-- Where a plan is broken: a part of it, and an item of that part.
use Rattle.std.specs.Prelude.{ℕ, nat_le, nat_lt, ◌==◌, ◌&&◌, ◌||◌, Bool, List, map}
use Rattle.std.proofs.Common.{arith}
use Rattle.std.proofs.lemmas.Bool.Decides.{nat_tests}
use Rattle.med_base.specs.declared.status.Part.{Part}
use Rattle.med_base.specs.declared.status.Part.TheVariants as part
use Rattle.text_reading.specs.Order.{IsOrder}
use Rattle.plan_reader.specs.declared.location.Location.{Location}

-- the order in which the parts count
abbrev pub rank : Part → ℕ
rank part.Plan = 0
rank part.Fragment = 1
rank part.Join = 2
rank part.Group = 3
rank part.Rule = 4
rank part.Atom = 5

-- by part, and then by item
abbrev pub is_up_to : Location → Location → Bool
is_up_to p q = nat_lt (rank p.part) (rank q.part) || (rank p.part == rank q.part && nat_le p.item q.item)

pub location_order : IsOrder is_up_to
location_order = record {
  itself = λ x. grind (arith, nat_tests);
  total = λ x y h. grind (arith, nat_tests);
  chain = λ x y z h i. grind (arith, nat_tests);
}

abbrev pub location : Part → ℕ → Location
location p item = record { part = p; item = item }

-- these items of the part
abbrev pub in_part : Part → List ℕ → List Location
in_part p items = map (location p) items

-- the fault is of the plan as a whole
abbrev pub of_plan : Location
of_plan = location part.Plan 0
