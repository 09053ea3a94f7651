use Rattle.std.proofs.Common.{subst}
use Rattle.tuple_core.specs.Values.{RowList}
use Rattle.step_core.specs.Standing.{Stands}
use Rattle.step_core.specs.Viewed.{tree_of}
use Rattle.step_core.proofs.Taking.{may_take}
use Rattle.step_core.proofs.node.Node.+step.Goals as goal

pub take-requires : goal.take-requires
take-requires g t c = may_take g.S.Source _ c.in-Join.join (tree_of c.in-Join.left.value) (tree_of c.in-Join.right.value) (subst (λ n. (gave : RowList) × Stands g.S.Source (tree_of n) gave) c.in-Join.is c.requires.stands)
