use Rattle.join_core.specs.Testing.{IsReady}
use Rattle.join_core.proofs.tests.each_row_gives_its_matches_at_once.Given as goal

abbrev pub invariant-loop-event : goal.invariant-loop-event
invariant-loop-event g l = IsReady l.join
