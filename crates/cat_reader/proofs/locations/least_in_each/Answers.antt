use Rattle.std.proofs.Common.{◌≡◌, ◌<◌, length, get_or, ap, ◌∙◌, arith}
use Rattle.std.specs.Prelude.{nat_le}
use Rattle.text_reading.specs.Order.{least, lesser}
use Rattle.cat_reader.specs.Locations.{is_up_to}
use Rattle.cat_reader.proofs.LocationLaws.{next_one}
use Rattle.cat_reader.proofs.locations.least_in_each.Goals as goal

pub loop-index-preserved : goal.loop-index-preserved
loop-index-preserved g c =
    let broken_in = g.C.ItemCheck.broken_in in
    let all = c.args.all.now in
    let k = c.loop-index.index in
    let one = c.index-all-index.result in
    let inside : k < length all = omega arith in
    let item : c.in_ok-least_broken.field-0 ≡ least nat_le (broken_in (get_or all k one)) = c.in_ok-least_broken.ensures ∙ ap (λ x. least nat_le (broken_in x)) c.index-all-index.is in
    let lesser_of = c.lesser-so_far.ensures ∙ ap (lesser is_up_to c.loop-index.so_far) c.item_of.ensures in
    next_one broken_in all k c.loop-index.so_far c.lesser-so_far.result c.in_ok-least_broken.field-0 one inside item lesser_of c.loop-index.invariant
