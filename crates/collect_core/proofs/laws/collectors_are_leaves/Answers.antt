use Rattle.collect_core.proofs.Leaves.{given_together, given_width, leaf_given}
use Rattle.collect_core.proofs.laws.collectors_are_leaves.Goals as goal

pub returns-clause-together : goal.returns-clause-together
returns-clause-together c = given_together

pub returns-clause-leaf : goal.returns-clause-leaf
returns-clause-leaf c = leaf_given

pub returns-clause-width : goal.returns-clause-width
returns-clause-width c = given_width
