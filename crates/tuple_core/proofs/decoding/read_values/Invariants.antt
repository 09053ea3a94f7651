use Rattle.std.proofs.Common.{◌≡◌, ◌-◌}
use Rattle.tuple_core.specs.Decoding.{values_and_rest}
use Rattle.tuple_core.proofs.ValueByValue.{after_front}
use Rattle.tuple_core.proofs.decoding.read_values.Given as goal

abbrev pub invariant-values : goal.invariant-values
invariant-values l = values_and_rest l.count l.bytes ≡ after_front l.values.items (values_and_rest (l.count - l.counter) l.rest)
