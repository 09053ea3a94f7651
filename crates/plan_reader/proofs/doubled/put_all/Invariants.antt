use Rattle.std.proofs.Common.{◌≡◌, ◌++◌, take, drop}
use Rattle.plan_reader.specs.Items.{has_doubled}
use Rattle.plan_reader.proofs.doubled.put_all.Given as goal

-- the names so far were put, and none of them stood before it
abbrev pub invariant-loop-name : goal.invariant-loop-name
invariant-loop-name g l = record {
  seen : l.seen.keys ≡ l.initial.seen.keys ++ take l.name-index l.names;
  none : has_doubled g.K.PartialEq.eq (l.initial.seen.keys ++ take l.name-index l.names) (drop l.name-index l.names) ≡ has_doubled g.K.PartialEq.eq l.initial.seen.keys l.names;
}
