use Rattle.std.proofs.Common.{sym, ◌∙◌}
use Rattle.toml_tables.proofs.KeyLaws.{only_keys}
use Rattle.toml_tables.proofs.tables.has_only.Goals as goal

pub returns : goal.returns
returns c = c.are_among.ensures ∙ sym (only_keys c.args.known.now c.args.table.now.entries)
