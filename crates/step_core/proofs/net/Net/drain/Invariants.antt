use Rattle.step_core.specs.Work.{net_left}
use Rattle.step_core.proofs.Draining.{HasDrained}
use Rattle.step_core.proofs.net.Net.drain.Given as goal

abbrev pub invariant-loop-end : goal.invariant-loop-end
invariant-loop-end g l = HasDrained g.S.Source l.fn.self l.self l.end

abbrev pub decreases-loop-end : goal.decreases-loop-end
decreases-loop-end g l = net_left g.S.Source l.self
