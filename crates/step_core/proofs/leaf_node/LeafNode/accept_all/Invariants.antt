use Rattle.collect_core.specs.Collecting.{work_left}
use Rattle.step_core.specs.Parts.{ReadsAt}
use Rattle.step_core.specs.Passes.{MemberAccepts}
use Rattle.step_core.specs.declared.actor.StepEnd.TheVariants as step_end
use Rattle.step_core.proofs.leaf_node.LeafNode.accept_all.Given as goal

abbrev pub invariant-loop-alloc : goal.invariant-loop-alloc
invariant-loop-alloc g l = ReadsAt g.S.Source MemberAccepts l.fn.self l.self l.index l.fn.out l.out step_end.Still

abbrev pub decreases-loop-alloc : goal.decreases-loop-alloc
decreases-loop-alloc g l = work_left g.S.Source l.self.collecting
