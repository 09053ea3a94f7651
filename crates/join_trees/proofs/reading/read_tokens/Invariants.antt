use Rattle.std.proofs.Common.{◌≡◌, length}
use Rattle.join_trees.specs.Machine.{start, tree_from}
use Rattle.join_trees.proofs.reading.read_tokens.Given as goal

-- what is read of the bytes that are left is what is read of the text
abbrev pub invariant-loop-first : goal.invariant-loop-first
invariant-loop-first l = tree_from l.state l.rest ≡ tree_from start l.text

abbrev pub decreases-loop-first : goal.decreases-loop-first
decreases-loop-first l = length l.rest
