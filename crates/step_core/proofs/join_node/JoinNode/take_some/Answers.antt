use Rattle.step_core.proofs.Falling.{takes_less}
use Rattle.step_core.proofs.Sweeping.{left_size, right_size, taken_more}
use Rattle.step_core.proofs.join_node.JoinNode.take_some.Goals as goal

pub loop-alloc-smaller : goal.loop-alloc-smaller
loop-alloc-smaller c = (takes_less c.args.side c.loop-alloc.self c.take.new.self c.loop-alloc.out c.take.new.out (left_size c.args.self.now) (right_size c.args.self.now) c.loop-alloc.invariant.sized c.in-Moved.ensures).less

pub loop-alloc-preserved : goal.loop-alloc-preserved
loop-alloc-preserved c = taken_more c.args.side c.args.self.now c.loop-alloc.self c.take.new.self c.args.out.now c.loop-alloc.out c.take.new.out c.loop-alloc.end c.loop-alloc.invariant c.in-Moved.ensures
