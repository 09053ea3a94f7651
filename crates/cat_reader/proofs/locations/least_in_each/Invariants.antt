use Rattle.std.proofs.Common.{◌≡◌, drop}
use Rattle.text_reading.specs.Order.{least, lesser}
use Rattle.cat_reader.specs.Locations.{in_each, is_up_to}
use Rattle.cat_reader.proofs.locations.least_in_each.Given as goal

-- the lesser of the least so far and that of those that are left is the least of all
abbrev pub invariant-loop-index : goal.invariant-loop-index
invariant-loop-index g l =
    lesser is_up_to l.so_far (least is_up_to (in_each g.C.ItemCheck.broken_in l.index (drop l.index l.all))) ≡ least is_up_to (in_each g.C.ItemCheck.broken_in 0 l.all)
