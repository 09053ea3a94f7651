use Rattle.join_core.specs.Testing.{IsReady}
use Rattle.join_core.proofs.tests.given.Given as goal

abbrev pub invariant-loop-event : goal.invariant-loop-event
invariant-loop-event l = IsReady l.join
