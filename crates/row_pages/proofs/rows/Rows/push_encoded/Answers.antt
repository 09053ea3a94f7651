use Rattle.row_pages.proofs.Encodings.{all_pushed_bytes, rows_pushed_bytes}
use Rattle.row_pages.proofs.rows.Rows.push_encoded.Goals as goal

pub invariant_of-self : goal.invariant_of-self
invariant_of-self c = all_pushed_bytes _ _ _ _ _ c.self.invariant c.bytes.ensures.fits c.bytes.ensures.encoding c.push.ensures.ok c.push.ensures.err

pub returns-clause-ok : goal.returns-clause-ok
returns-clause-ok c = rows_pushed_bytes _ _ _ _ _ _ c.self.view_is c.bytes.ensures.fits c.bytes.ensures.encoding c.push.ensures.ok
