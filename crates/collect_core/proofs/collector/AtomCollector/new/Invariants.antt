use Rattle.std.proofs.Common.{◌≡◌, ◌+◌, ◌++◌, drop}
use Rattle.collect_core.specs.Members.{fresh_members}
use Rattle.collect_core.proofs.collector.AtomCollector.new.Given as goal

abbrev pub invariant-loop-index : goal.invariant-loop-index
invariant-loop-index g l = l.members.items ++ fresh_members l.fn.atom (l.index + 1) (drop l.index l.groups) ≡ fresh_members l.fn.atom 1 l.groups
