use Rattle.std.proofs.Common.{◌≡◌, ◌==◌, ◌∙◌, true, false, length, map, sym}
use Rattle.std.proofs.lemmas.List.{length-map}
use Rattle.std.specs.List.{list_all}
use Rattle.toml.specs.View.{view}
use Rattle.cat_reader.specs.Forms.{is_table}
use Rattle.cat_reader.proofs.FormLaws.{test_values}
use Rattle.cat_reader.proofs.forms.some_tables.Goals as goal

pub returns-then-are_tables : goal.returns-then-are_tables
returns-then-are_tables c =
    let values = c.args.values.now in
    let some : (length (map view values) == 0) ≡ false = rw length-map (sym c.is_empty.ensures ∙ c.if-is_empty.false) in
    let all : list_all is_table (map view values) ≡ true = test_values values ∙ sym c.are_tables.ensures ∙ c.if-are_tables.true in
    rw (some, all)

pub returns-else-are_tables : goal.returns-else-are_tables
returns-else-are_tables c =
    let values = c.args.values.now in
    let some : (length (map view values) == 0) ≡ false = rw length-map (sym c.is_empty.ensures ∙ c.if-is_empty.false) in
    let all : list_all is_table (map view values) ≡ false = test_values values ∙ sym c.are_tables.ensures ∙ c.if-are_tables.false in
    rw (some, all)
