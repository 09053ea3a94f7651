use Rattle.std.proofs.Common.{◌≡◌, ◌++◌, map}
use Rattle.answer_theory.specs.Bags.{numbers_from}
use Rattle.plan_checker.specs.Members.{member_name}
use Rattle.plan_checker.proofs.members.push_members.Given as goal

-- the members so far
abbrev pub invariant-loop-index : goal.invariant-loop-index
invariant-loop-index l = l.members ≡ l.initial.members ++ map (member_name l.group) (numbers_from 1 l.index)
