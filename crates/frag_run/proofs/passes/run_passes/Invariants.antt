use Rattle.frag_run.proofs.Running.{HasRun, passes_left}
use Rattle.frag_run.proofs.passes.run_passes.Given as goal

abbrev pub invariant-loop-rounds : goal.invariant-loop-rounds
invariant-loop-rounds g l = HasRun g.S.Source l.fn.net l.net l.idle l.limit

abbrev pub decreases-loop-rounds : goal.decreases-loop-rounds
decreases-loop-rounds g l = passes_left g.S.Source l.net l.idle l.limit
