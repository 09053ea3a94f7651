use Rattle.join_core.proofs.Joined.{glued_wide, joined_bind, joined_fit}
use Rattle.join_core.proofs.laws.joins_are_joined.Goals as goal

pub returns-clause-bindings : goal.returns-clause-bindings
returns-clause-bindings c = joined_bind

pub returns-clause-wide : goal.returns-clause-wide
returns-clause-wide c = glued_wide

pub returns-clause-fits : goal.returns-clause-fits
returns-clause-fits c = joined_fit
