use Rattle.step_core.specs.Viewed.{tree_of}
use Rattle.step_core.proofs.Keeping.{operators}
use Rattle.step_core.proofs.node.Node.+give.Given as goal

abbrev pub decreases-give : goal.decreases-give
decreases-give g l = operators (tree_of l.self.now)
