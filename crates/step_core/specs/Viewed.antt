-- A net's operators, as they are kept and as they are seen.
use Rattle.step_core.specs.Nets.{NetTree, leaf, fork}
use Rattle.step_core.specs.declared.node.Node.{Node}
use Rattle.step_core.specs.declared.node.Node.TheVariants.{Leaf, Join'}

abbrev pub tree_of : {S M : Type 0} → Node S M → NetTree S
tree_of (Leaf l) = leaf l
tree_of (Join' p a q b j) = fork j (tree_of a) (tree_of b)
