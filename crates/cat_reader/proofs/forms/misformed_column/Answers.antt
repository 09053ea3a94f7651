use Rattle.std.proofs.Common.{◌==◌, ap, length, ◌∙◌}
use Rattle.std.specs.Prelude.{nat_le}
use Rattle.text_reading.specs.Faults.{broken_if}
use Rattle.text_reading.specs.Order.{least, lesser}
use Rattle.toml.specs.View.{table_view}
use Rattle.cat_reader.proofs.FormLaws.{least_column}
use Rattle.cat_reader.proofs.forms.misformed_column.Goals as goal

pub returns : goal.returns
returns c =
    let all = least_column (table_view c.args.table.now) c.values_at-values.result.now c.values_at-values.ensures in
    let some = c.broken_if.ensures ∙ ap (λ b. least nat_le (broken_if b 0)) c.is_empty.ensures in
    c.lesser.ensures ∙ ap (λ m. lesser nat_le m c.first_no_column.result) some
    ∙ ap (lesser nat_le (least nat_le (broken_if (length c.values_at-values.result.now == 0) 0))) c.first_no_column.ensures ∙ all
