use Rattle.std.proofs.Common.{◌≡◌, take, drop}
use Rattle.cat_reader.specs.Doubled.{doubled_after, doubled_names}
use Rattle.cat_reader.proofs.DoubledLaws.{texts}
use Rattle.cat_reader.proofs.doubled.first_doubled.Given as goal

-- the names so far are seen, and none of them is doubled
abbrev pub invariant-loop-index : goal.invariant-loop-index
invariant-loop-index l = record {
  seen : texts l.seen.keys ≡ take l.index (texts l.names);
  none : doubled_after (take l.index (texts l.names)) l.index (drop l.index (texts l.names)) ≡ doubled_names (texts l.names);
}
