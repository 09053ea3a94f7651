use Rattle.tuple_core.specs.Encoded.{value_seen}
use Rattle.query_model.specs.Walks.{binding_of}
use Rattle.query_model.proofs.Fitting.{found_fits, row_fits}
use Rattle.query_model.proofs.heads.head_row.Goals as goal

pub new-requires : goal.new-requires
new-requires c = row_fits (binding_of c.args.entries.now.entries.now) c.args.head.now c.loop-variable.values.items c.loop-variable.variable-index c.requires.bound.fit c.requires.short c.loop-variable-test.false c.loop-variable.invariant

pub to_value-requires : goal.to_value-requires
to_value-requires c = found_fits (binding_of c.args.entries.now.entries.now) c.requires.bound.fit _ (value_seen c.in-Some.value) c.in-Some.ensures
