use Rattle.std.proofs.Common.{◌≡◌, ◌++◌, drop, map}
use Rattle.toml.specs.View.{view}
use Rattle.cat_reader.specs.Relations.{group_in}
use Rattle.cat_reader.proofs.groups.read_groups.Given as goal

-- the groups so far stand before those of the values that are left
abbrev pub invariant-loop-value : goal.invariant-loop-value
invariant-loop-value l = l.groups ++ map group_in (map view (drop l.value-index l.values)) ≡ map group_in (map view l.values)
