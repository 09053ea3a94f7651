use Rattle.std.proofs.Common.{ap, ◌∙◌}
use Rattle.query_model.proofs.Binding.{agrees_one}
use Rattle.tuple_core.specs.Encoded.{value_seen}
use Rattle.query_model.specs.Walks.{entries_agree}
use Rattle.query_model.proofs.entries.bind_value.Goals as goal

pub returns-in_ok-push-in-Variable-clause-agrees :
    goal.returns-in_ok-push-in-Variable-clause-agrees
returns-in_ok-push-in-Variable-clause-agrees c =
    rw c.in-Variable.is (c.entries_agree-agrees.ensures ∙ ap (λ entries. entries_agree entries c.in-Variable.variable (value_seen c.args.value)) c.as_slice.ensures.value ∙ agrees_one c.args.entries.now.items c.in-Variable.variable (value_seen c.args.value) c.requires)

pub returns-else-agrees-clause-agrees : goal.returns-else-agrees-clause-agrees
returns-else-agrees-clause-agrees c =
    rw c.in-Variable.is (c.entries_agree-agrees.ensures ∙ ap (λ entries. entries_agree entries c.in-Variable.variable (value_seen c.args.value)) c.as_slice.ensures.value ∙ agrees_one c.args.entries.now.items c.in-Variable.variable (value_seen c.args.value) c.requires)
