use Rattle.med_top.proofs.OutcomeLaws.{finished}
use Rattle.med_top.proofs.mediating.answer.Goals as goal

pub returns-in-Ok-clause-outcome : goal.returns-in-Ok-clause-outcome
returns-in-Ok-clause-outcome g c = λ words texts shelf_faults shelf_asked accepts.
    rw (c.without_files.ensures.members, c.without_files.ensures.status)
    (finished _ c.args.task accepts (rw (c.as_slice.ensures) at c.in-Ok.ensures.members) c.in-Ok.read.arrivals.items c.in-Ok.read.end c.finish-status.result (rw (c.as_slice.ensures) at c.in-Ok.ensures.ends) c.finish-status.ensures)
