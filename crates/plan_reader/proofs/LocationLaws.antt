-- The least location, part by part.
use Rattle.std.proofs.Common.{◌≡◌, ℕ, List, ◌++◌, arith}
use Rattle.std.specs.Prelude.{nat_le, option_map}
use Rattle.std.proofs.lemmas.Bool.Decides.{nat_tests}
use Rattle.med_base.specs.declared.status.Part.{Part}
use Rattle.text_reading.specs.Order.{least, lesser, nat_order}
use Rattle.text_reading.proofs.OrderLaws.{least_append, least_map}
use Rattle.plan_reader.specs.Locations.{in_part, is_up_to, location, location_order}
use Rattle.plan_reader.specs.declared.location.Location.{Location}

pub item_append : (xs ys : List ℕ) → least nat_le (xs ++ ys) ≡ lesser nat_le (least nat_le xs) (least nat_le ys)
item_append = least_append nat_le nat_order

pub location_append : (xs ys : List Location) → least is_up_to (xs ++ ys) ≡ lesser is_up_to (least is_up_to xs) (least is_up_to ys)
location_append = least_append is_up_to location_order

in_order : (p : Part) (i j : ℕ) → is_up_to (location p i) (location p j) ≡ nat_le i j
in_order p i j = grind (arith, nat_tests)

pub least_in_part : (p : Part) (items : List ℕ) → least is_up_to (in_part p items) ≡ option_map (location p) (least nat_le items)
least_in_part p items = least_map nat_le is_up_to (location p) (in_order p) items
