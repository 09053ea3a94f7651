use Rattle.std.proofs.Common.{List, Bor, ℕ, ap, sym, ◌∙◌}
use Rattle.std.specs.Prelude.{is_none, nat_le, position}
use Rattle.text_reading.specs.Order.{least, lesser}
use Rattle.plan_reader.specs.Items.{doubled}
use Rattle.plan_reader.proofs.FormLaws.{least_rule}
use Rattle.plan_reader.proofs.ItemLaws.{same_seen}
use Rattle.plan_reader.proofs.forms.misformed_rule.Goals as goal

pub returns : goal.returns
returns c =
    let rs = c.args.rules.now in
    c.lesser.ensures ∙ ap (λ m. lesser nat_le m c.in_ok-doubled.doubled) c.first_missing.ensures
    ∙ ap (lesser nat_le (position is_none rs)) (c.in_ok-doubled.ensures ∙ ap (λ (ns : List (List (Bor (List ℕ)))). least nat_le (doubled same_seen ns)) c.as_slice.ensures)
    ∙ sym (least_rule rs c.in_ok-names.names c.in_ok-names.ensures)
