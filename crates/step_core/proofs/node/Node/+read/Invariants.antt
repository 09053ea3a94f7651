use Rattle.step_core.specs.Viewed.{tree_of}
use Rattle.step_core.proofs.Keeping.{operators}
use Rattle.step_core.proofs.node.Node.+read.Given as goal

abbrev pub decreases-read : goal.decreases-read
decreases-read g l = operators (tree_of l.self.now)
