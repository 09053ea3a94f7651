use Rattle.std.proofs.Common.{◌≡◌, None}
use Rattle.join_core.specs.State.{probe_left}
use Rattle.join_core.proofs.tests.drain.Given as goal

abbrev pub invariant-loop-row : goal.invariant-loop-row
invariant-loop-row l = record l.join { probe = None } ≡ record l.initial.join { probe = None }

abbrev pub decreases-loop-row : goal.decreases-loop-row
decreases-loop-row l = probe_left l.join
