use Rattle.std.proofs.Common.{List, map, ap, ◌∙◌}
use Rattle.toml.specs.View.{table_view}
use Rattle.plan_reader.specs.Entries.{entry_seen}
use Rattle.plan_reader.specs.Settings.{group_setting, join_setting}
use Rattle.plan_reader.specs.declared.entries.Entry.{Entry}
use Rattle.plan_reader.proofs.FormLaws.{same_parts}
use Rattle.plan_reader.proofs.parts.read_parts.Goals as goal

pub returns : goal.returns
returns c =
    same_parts (table_view c.args.document.now) c.values_at.result.now c.values_at-2.result.now c.in_ok-joins.joins.items c.in_ok-groups.groups.items
    c.values_at.ensures c.in_ok-joins.ensures c.in_ok-groups.ensures c.values_at-2.ensures
    (record { fragments = c.in_ok-read_items.field-0; joins = c.in_ok-read_items-2.field-0; groups = c.in_ok-read_items-3.field-0; rules = c.in_ok-read_items-4.field-0 })
    c.in_ok-read_items.ensures
    (c.in_ok-read_items-2.ensures ∙ ap (λ (es : List Entry). map (λ (e : Entry). join_setting (entry_seen e)) es) c.as_slice.ensures.value)
    (c.in_ok-read_items-3.ensures ∙ ap (λ (es : List Entry). map (λ (e : Entry). group_setting (entry_seen e)) es) c.as_slice-2.ensures.value)
    c.in_ok-read_items-4.ensures
