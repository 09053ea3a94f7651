use Rattle.answer_theory.proofs.Bindings.{value_of_glue, bound_glue, met_value, value_of_swapped}
use Rattle.answer_theory.proofs.binding_laws.glued_values.Goals as goal

pub returns-clause-values : goal.returns-clause-values
returns-clause-values g c = value_of_glue

pub returns-clause-bound : goal.returns-clause-bound
returns-clause-bound g c = bound_glue

pub returns-clause-met : goal.returns-clause-met
returns-clause-met g c = met_value

pub returns-clause-either_way : goal.returns-clause-either_way
returns-clause-either_way g c = value_of_swapped
