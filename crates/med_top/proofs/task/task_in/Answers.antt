use Rattle.med_top.proofs.TargetLaws.{task_within}
use Rattle.med_top.proofs.task.task_in.Goals as goal

pub returns-in-Ok-Some-clause-within : goal.returns-in-Ok-Some-clause-within
returns-in-Ok-Some-clause-within c = task_within c.args.relations.now c.in_ok-query.query _ c.requires.limits c.in_ok-query.ensures.fits (rw (c.as_slice.ensures, c.as_slice-2.ensures, c.in-Ok-Some.field-0-is) at c.in-Ok-Some.ensures)
