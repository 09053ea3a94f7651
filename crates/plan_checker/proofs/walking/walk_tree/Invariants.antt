use Rattle.std.proofs.Common.{◌≡◌, [], drop}
use Rattle.plan_checker.specs.Walks.{walk, with_nodes}
use Rattle.plan_checker.proofs.walking.walk_tree.Given as goal

-- what is gone through in the end
abbrev pub invariant-loop-node : goal.invariant-loop-node
invariant-loop-node l = with_nodes l.finished l.walk (drop l.node-index l.nodes) ≡ with_nodes l.finished (walk [] l.initial.walk.sites) l.nodes
