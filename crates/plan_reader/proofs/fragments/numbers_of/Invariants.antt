use Rattle.std.proofs.Common.{◌≡◌, ◌++◌, drop, map}
use Rattle.std.specs.List.{filter_map}
use Rattle.toml.specs.View.{view}
use Rattle.plan_reader.specs.Words.{fragment_of}
use Rattle.plan_reader.proofs.fragments.numbers_of.Given as goal

-- the numbers so far stand before those of the values that are left
abbrev pub invariant-loop-value : goal.invariant-loop-value
invariant-loop-value l = l.numbers ++ filter_map fragment_of (map view (drop l.value-index l.values)) ≡ filter_map fragment_of (map view l.values)
