use Rattle.std.proofs.Common.{◌≡◌, ap, ◌∙◌}
use Rattle.std.specs.Prelude.{is_none, is_some, nat_le}
use Rattle.text_reading.specs.Faults.{broken_if}
use Rattle.text_reading.specs.Order.{least, lesser}
use Rattle.toml.specs.View.{table_view}
use Rattle.cat_reader.proofs.FormLaws.{flipped, least_group}
use Rattle.cat_reader.proofs.forms.misformed_group.Goals as goal

pub returns : goal.returns
returns c =
    let all = least_group (table_view c.args.table.now) c.values_at.result.now c.array_at.result c.values_at.ensures c.array_at.ensures in
    let none : c.is_none-is_none.result ≡ is_none c.array_at.result = flipped c.is_none-is_none.result (is_some c.array_at.result) c.is_none-is_none.ensures in
    let some = c.broken_if.ensures ∙ ap (λ b. least nat_le (broken_if b 0)) none in
    c.lesser.ensures ∙ ap (λ m. lesser nat_le m c.first_no_group.result) some
    ∙ ap (lesser nat_le (least nat_le (broken_if (is_none c.array_at.result) 0))) c.first_no_group.ensures ∙ all
