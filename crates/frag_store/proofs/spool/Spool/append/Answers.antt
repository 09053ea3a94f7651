use Rattle.frag_store.proofs.ScanLaws.{rows_put}
use Rattle.frag_store.proofs.spool.Spool.append.Goals as goal

pub returns-clause-told : goal.returns-clause-told
returns-clause-told g c = rw (← c.self.view_is) (rows_put c.self.inside.file c.put_spooled.new.self c.args.rows.now c.in_ok-put_spooled.field-0 c.in_ok-put_spooled.ensures.ok)
