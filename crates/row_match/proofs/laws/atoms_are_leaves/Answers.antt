use Rattle.row_match.proofs.Leaves.{leaf_binds, rows_chosen}
use Rattle.row_match.proofs.laws.atoms_are_leaves.Goals as goal

pub returns-clause-binds : goal.returns-clause-binds
returns-clause-binds c = leaf_binds

pub returns-clause-gives : goal.returns-clause-gives
returns-clause-gives c = rows_chosen
