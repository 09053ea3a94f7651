use Rattle.step_core.specs.Viewed.{tree_of}
use Rattle.step_core.proofs.Keeping.{operators}
use Rattle.step_core.proofs.node.Node.+opening_failed.Given as goal

abbrev pub decreases-opening_failed : goal.decreases-opening_failed
decreases-opening_failed g l = operators (tree_of l.self.now)
