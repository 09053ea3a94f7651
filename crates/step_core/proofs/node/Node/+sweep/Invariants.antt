use Rattle.step_core.specs.Viewed.{tree_of}
use Rattle.step_core.proofs.Keeping.{operators}
use Rattle.step_core.proofs.node.Node.+sweep.Given as goal

abbrev pub decreases-sweep : goal.decreases-sweep
decreases-sweep g l = operators (tree_of l.self.now)
