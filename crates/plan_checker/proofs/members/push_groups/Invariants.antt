use Rattle.std.proofs.Common.{◌≡◌, ◌++◌, map}
use Rattle.answer_theory.specs.Bags.{numbers_from}
use Rattle.plan_checker.specs.Members.{group_name}
use Rattle.plan_checker.proofs.members.push_groups.Given as goal

-- the groups so far
abbrev pub invariant-loop-index : goal.invariant-loop-index
invariant-loop-index l = l.groups ≡ l.initial.groups ++ map (group_name l.atom) (numbers_from 1 l.index)
