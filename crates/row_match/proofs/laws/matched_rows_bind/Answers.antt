use Rattle.row_match.proofs.Leaves.{matched_binds, matched_width, matched_is_row}
use Rattle.row_match.proofs.laws.matched_rows_bind.Goals as goal

pub returns-clause-entries : goal.returns-clause-entries
returns-clause-entries c = matched_binds

pub returns-clause-width : goal.returns-clause-width
returns-clause-width c = matched_width

pub returns-clause-row : goal.returns-clause-row
returns-clause-row c = matched_is_row
