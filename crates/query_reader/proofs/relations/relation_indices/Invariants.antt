use Rattle.std.proofs.Common.{◌≡◌, ◌++◌, drop}
use Rattle.query_reader.specs.Directories.{relation_indices}
use Rattle.query_reader.proofs.relations.relation_indices.Given as goal

-- the names so far stand before those of the relations that are left
abbrev pub invariant-loop-position : goal.invariant-loop-position
invariant-loop-position l = l.names.items ++ relation_indices l.position (drop l.position l.relations) ≡ relation_indices 0 l.relations
