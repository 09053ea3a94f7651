use Rattle.std.proofs.Common.{◌≡◌, ◌++◌, drop, map}
use Rattle.std.specs.List.{filter_map}
use Rattle.toml.specs.View.{view}
use Rattle.cat_reader.specs.Relations.{relation_in}
use Rattle.cat_reader.proofs.relations.read_relations.Given as goal

-- the relations so far stand before those of the tables that are left
abbrev pub invariant-loop-table : goal.invariant-loop-table
invariant-loop-table l = l.relations ++ filter_map relation_in (map view (drop l.table-index l.tables)) ≡ filter_map relation_in (map view l.tables)
