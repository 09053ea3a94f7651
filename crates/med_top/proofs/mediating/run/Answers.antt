use Rattle.med_top.proofs.OutcomeLaws.{asked_names}
use Rattle.med_top.proofs.mediating.run.Goals as goal

pub returns-in-Ok-load-clause-outcome : goal.returns-in-Ok-load-clause-outcome
returns-in-Ok-load-clause-outcome g c = c.answer.ensures.outcome _ _ _ _ (record {
  catalogue = c.as_str.result.now;
  query = c.as_str-2.result.now;
  command = asked_names _ _ _ _ _ c.in-Ok.ensures c.as_str.ensures.value c.as_str-2.ensures.value;
  loads = c.in-Ok-load.ensures.loads;
})
