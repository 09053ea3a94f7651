use Rattle.std.proofs.Common.{drop}
use Rattle.step_core.proofs.Running.{HasRun}
use Rattle.step_core.proofs.net.Net.run.Given as goal

abbrev pub invariant-loop-actor : goal.invariant-loop-actor
invariant-loop-actor g l = HasRun g.S.Source l.schedule (drop l.actor-index l.schedule) l.fn.self l.self l.end
