use Rattle.step_core.proofs.Leafing.{HasRead}
use Rattle.step_core.proofs.Running.{GoesOnFrom}
use Rattle.step_core.proofs.leaf_node.LeafNode.read.Given as goal

abbrev pub invariant-loop-index : goal.invariant-loop-index
invariant-loop-index g l = HasRead g.S.Source l.index l.fn.self l.self l.fn.out l.out l.end × GoesOnFrom l.end
