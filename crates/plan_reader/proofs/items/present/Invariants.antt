use Rattle.std.proofs.Common.{◌≡◌}
use Rattle.plan_reader.specs.Items.{present}
use Rattle.plan_reader.proofs.items.present.Given as goal

-- those so far
abbrev pub invariant-loop-item : goal.invariant-loop-item
invariant-loop-item g l = l.found ≡ present l.yielded
