use Rattle.std.proofs.Common.{◌≡◌, ◌+◌, ◌++◌, drop}
use Rattle.collect_core.specs.Members.{fresh_group}
use Rattle.collect_core.proofs.collector.list_group.Given as goal

abbrev pub invariant-loop-index : goal.invariant-loop-index
invariant-loop-index g l = l.members.items ++ fresh_group l.fn.atom l.fn.group (l.index + 1) (drop l.index l.mirrors) ≡ l.fn.members.items ++ fresh_group l.fn.atom l.fn.group 1 l.mirrors
