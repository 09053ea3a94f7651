use Rattle.std.proofs.Common.{◌≡◌, ◌++◌, drop, map}
use Rattle.std.specs.List.{filter_map}
use Rattle.toml.specs.View.{view}
use Rattle.cat_reader.specs.Relations.{column_in}
use Rattle.cat_reader.proofs.columns.read_columns.Given as goal

-- the columns so far stand before those of the values that are left
abbrev pub invariant-loop-value : goal.invariant-loop-value
invariant-loop-value l = l.columns ++ filter_map column_in (map view (drop l.value-index l.values)) ≡ filter_map column_in (map view l.values)
