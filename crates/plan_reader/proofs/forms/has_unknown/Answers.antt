use Rattle.std.proofs.Common.{List, Bor, ℕ, not, map, ap, ◌∙◌}
use Rattle.toml.specs.View.{table_view}
use Rattle.toml_tables.specs.Tables.{has_only}
use Rattle.plan_reader.proofs.forms.has_unknown.Goals as goal

pub returns : goal.returns
returns c =
    ap not (c.has_only.ensures ∙ ap (λ (ks : List (Bor (List ℕ))). has_only (map (λ (k : Bor (List ℕ)). k.now) ks) (table_view c.args.document.now)) c.as_slice.ensures)
