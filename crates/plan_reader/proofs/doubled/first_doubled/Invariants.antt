use Rattle.std.proofs.Common.{◌≡◌, take, drop}
use Rattle.plan_reader.specs.Items.{doubled, doubled_after}
use Rattle.plan_reader.proofs.ItemLaws.{all_of}
use Rattle.plan_reader.proofs.doubled.first_doubled.Given as goal

-- the names of the items so far are seen, and none of them is doubled
abbrev pub invariant-loop-index : goal.invariant-loop-index
invariant-loop-index g l = record {
  seen : l.seen.keys ≡ all_of (take l.index l.lists);
  none : doubled_after g.K.PartialEq.eq (all_of (take l.index l.lists)) l.index (drop l.index l.lists) ≡ doubled g.K.PartialEq.eq l.lists;
}
