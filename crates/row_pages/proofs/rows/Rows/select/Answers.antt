use Rattle.row_pages.proofs.Encodings.{all_selected, rows_selected}
use Rattle.row_pages.proofs.rows.Rows.select.Goals as goal

pub invariant_of-self : goal.invariant_of-self
invariant_of-self c = all_selected _ _ c.args.indices.now _ c.self.invariant (rw c.self.view_is c.requires.inside) c.select.ensures.ok c.select.ensures.err

pub returns-clause-ok : goal.returns-clause-ok
returns-clause-ok c = rows_selected _ _ _ c.args.indices.now _ c.self.view_is c.requires.inside c.select.ensures.ok
