use Rattle.std.proofs.Common.{◌≡◌, ◌++◌, drop}
use Rattle.std.specs.List.{filter_map}
use Rattle.answer_theory.specs.Bindings.{value_of}
use Rattle.query_model.specs.Walks.{binding_of}
use Rattle.query_model.proofs.heads.head_row.Given as goal

abbrev pub invariant-loop-variable : goal.invariant-loop-variable
invariant-loop-variable l = l.values.items ++ filter_map (value_of (binding_of l.entries.entries.now)) (drop l.variable-index l.head) ≡ filter_map (value_of (binding_of l.entries.entries.now)) l.head
