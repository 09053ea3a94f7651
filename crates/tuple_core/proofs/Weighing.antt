-- The weight of a row is the length of its encoding, and has a bound.
use Rattle.std.proofs.Common.{◌≡◌, ◌+◌, ◌*◌, ◌≤◌, [], ◌∷◌, length, refl, sym, ap, ◌∙◌, arith, length-append}
use Rattle.std.specs.List.{AllByRecursion, flat_map, sum_by}
use Rattle.std.proofs.lemmas.List.Sums.{sum_by-cons}
use Rattle.tuple_core.specs.Encoding.{greatest_value_weight, greatest_weight, row_encoding, row_weight, value_encoding, value_weight}
use Rattle.tuple_core.specs.Values.{FitsRow, FitsValue, RowValues}
use Rattle.tuple_core.specs.declared.value.Value.{Value}
use Rattle.tuple_core.specs.declared.value.Value.TheVariants as value

one_weighs : (v : Value) → length (value_encoding v) ≡ value_weight v
one_weighs (value.Int z) = refl
one_weighs (value.Text bytes) = omega arith
one_weighs (value.Bool b) = refl

all_weigh : (row : RowValues) → length (flat_map value_encoding row) ≡ sum_by value_weight row
all_weigh [] = refl
all_weigh (v ∷ row) =
    length-append (value_encoding v) (flat_map value_encoding row)
    ∙ ap (λ n. n + length (flat_map value_encoding row)) (one_weighs v)
    ∙ ap (λ n. value_weight v + n) (all_weigh row)
    ∙ sym (sum_by-cons value_weight v row)

pub row_weighs : (row : RowValues) → row_weight row ≡ length (row_encoding row)
row_weighs row = let all = all_weigh row in omega arith

value_bounded : (v : Value) → FitsValue v → value_weight v ≤ greatest_value_weight
value_bounded (value.Int z) h = omega arith
value_bounded (value.Text bytes) h = let short = h.1 in omega arith
value_bounded (value.Bool b) h = omega arith

values_bounded : (row : RowValues) → AllByRecursion FitsValue row → sum_by value_weight row ≤ greatest_value_weight * length row
values_bounded [] h = omega arith
values_bounded (v ∷ row) h =
    let all = sum_by-cons value_weight v row in
    let one = value_bounded v h.0 in
    let more = values_bounded row h.1 in
    omega arith

pub row_bounded : (row : RowValues) → FitsRow row → row_weight row ≤ greatest_weight
row_bounded row h = let short = h.short in let all = values_bounded row h.each in omega arith
