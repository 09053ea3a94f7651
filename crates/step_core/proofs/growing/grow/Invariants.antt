use Rattle.std.proofs.Common.{drop}
use Rattle.step_core.specs.Plans.{IsPlanOf, Plan}
use Rattle.step_core.proofs.Piling.{IsGrown}
use Rattle.step_core.proofs.growing.grow.Given as goal

abbrev pub invariant-loop-node : goal.invariant-loop-node
invariant-loop-node g l = (p : Plan) → IsPlanOf l.fn.tree l.fn.atoms.items l.fn.joins.items p → IsGrown p (drop l.node-index l.nodes) l.pile l.next_atoms.items l.next_joins.items
