use Rattle.step_core.proofs.Falling.{taking_left}
use Rattle.step_core.proofs.Sweeping.{HasTaken, left_size, right_size}
use Rattle.step_core.proofs.join_node.JoinNode.take_some.Given as goal

abbrev pub invariant-loop-alloc : goal.invariant-loop-alloc
invariant-loop-alloc l = HasTaken l.side l.fn.self l.self l.fn.out l.out l.end

abbrev pub decreases-loop-alloc : goal.decreases-loop-alloc
decreases-loop-alloc l = taking_left l.self (left_size l.fn.self) (right_size l.fn.self)
