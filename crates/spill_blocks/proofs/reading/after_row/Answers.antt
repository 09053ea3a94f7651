use Rattle.std.proofs.Common.{◌≡◌, ◌∷◌, ◌∙◌, ap, sym, refl, arith, rules, length, option_map}
use Rattle.std.proofs.lemmas.Grind.{common_steps}
use Rattle.std.proofs.lemmas.List.{nil_from_length}
use Rattle.tuple_core.specs.Values.{RowValues}
use Rattle.med_prelude.specs.Texts.{Bytes}
use Rattle.spill_blocks.proofs.RestLaws.{great_row, no_row, other_row, wide_row}
use Rattle.spill_blocks.proofs.reading.after_row.Goals as goal

pub returns-in_err-count : goal.returns-in_err-count
returns-in_err-count c =
    let none : length c.args.bytes.now ≡ 0 = grind (arith, common_steps) in
    rw (c.from_residual.ensures, nil_from_length c.args.bytes.now none, no_row c.args.width) refl

pub returns-then-count-width : goal.returns-then-count-width
returns-then-count-width c =
    let whole : c.args.bytes.now ≡ c.in_ok-count.count.now ∷ c.in_ok-count.bytes.now = search rules in
    rw (whole, other_row c.args.width c.in_ok-count.count.now c.in_ok-count.bytes.now (omega arith)) refl

pub returns-then-from-gt-MOST_VALUES : goal.returns-then-from-gt-MOST_VALUES
returns-then-from-gt-MOST_VALUES c =
    let whole : c.args.bytes.now ≡ c.in_ok-count.count.now ∷ c.in_ok-count.bytes.now = search rules in
    let same : c.in_ok-count.count.now ≡ c.args.width = omega arith in
    rw (whole, same, great_row c.args.width c.in_ok-count.bytes.now (omega arith)) refl

pub returns : goal.returns
returns c =
    let whole : c.args.bytes.now ≡ c.in_ok-count.count.now ∷ c.in_ok-count.bytes.now = search rules in
    let same : c.in_ok-count.count.now ≡ c.args.width = omega arith in
    c.after_values.ensures ∙ ap (option_map (λ (x : RowValues × Bytes). x.1)) (sym (rw (whole, same) (wide_row c.args.width c.in_ok-count.bytes.now (omega arith))))
