use Rattle.query_core.proofs.Heads.{leaf_binds_variables, leaf_gives}
use Rattle.query_core.proofs.laws.atoms_give_leaves.Goals as goal

pub returns-clause-binds : goal.returns-clause-binds
returns-clause-binds c = leaf_binds_variables

pub returns-clause-gives : goal.returns-clause-gives
returns-clause-gives c = leaf_gives
