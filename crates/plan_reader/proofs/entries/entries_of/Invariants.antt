use Rattle.std.proofs.Common.{◌≡◌, ◌++◌, map}
use Rattle.toml.specs.View.{members_view}
use Rattle.plan_reader.specs.Entries.{entries_of, entry_seen}
use Rattle.plan_reader.proofs.entries.entries_of.Given as goal

-- the entries so far stand before those that are left
abbrev pub invariant-loop-key : goal.invariant-loop-key
invariant-loop-key l =
    (goal.iterator-loop-key).can_next l.key-iterator × (goal.iterator-loop-key).is_finite l.key-iterator
    × (map entry_seen l.entries.items ++ entries_of (members_view l.key-iterator) ≡ entries_of (members_view l.table.entries))
