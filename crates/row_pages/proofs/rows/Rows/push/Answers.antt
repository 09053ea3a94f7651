use Rattle.row_pages.proofs.Encodings.{all_pushed, rows_pushed}
use Rattle.row_pages.proofs.rows.Rows.push.Goals as goal

pub invariant_of-self : goal.invariant_of-self
invariant_of-self c = all_pushed _ _ _ _ c.self.invariant c.push_row.ensures.fits c.push_row.ensures.ok c.push_row.ensures.err

pub returns-clause-ok : goal.returns-clause-ok
returns-clause-ok c = rows_pushed _ _ _ _ _ c.self.view_is c.push_row.ensures.fits c.push_row.ensures.ok
