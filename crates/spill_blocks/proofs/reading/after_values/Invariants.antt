use Rattle.std.proofs.Common.{◌≡◌, ◌-◌}
use Rattle.spill_blocks.proofs.RestLaws.{behind}
use Rattle.spill_blocks.proofs.reading.after_values.Given as goal

abbrev pub invariant-values : goal.invariant-values
invariant-values l = behind l.count l.bytes ≡ behind (l.count - l.counter) l.rest
