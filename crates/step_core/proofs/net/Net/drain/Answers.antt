use Rattle.step_core.proofs.Draining.{drained_falls, drained_more, drained_none}
use Rattle.step_core.proofs.Resting.{quiet_finished}
use Rattle.step_core.proofs.Same.{operators_then}
use Rattle.step_core.proofs.net.Net.drain.Goals as goal

pub returns-in-Still-clause-quiet : goal.returns-in-Still-clause-quiet
returns-in-Still-clause-quiet g c = λ enough. c.sweep.ensures.quiet c.in-Still.is

pub returns-in-Still-clause-finished : goal.returns-in-Still-clause-finished
returns-in-Still-clause-finished g c = λ enough. quiet_finished g.S.Source c.sweep.new.self c.in-Still.ensures.stands (c.sweep.ensures.quiet c.in-Still.is)

pub returns-in-Still-clause-operators : goal.returns-in-Still-clause-operators
returns-in-Still-clause-operators g c = operators_then c.args.self.now.tree c.loop-end.self.tree c.sweep.new.self.tree c.loop-end.invariant.operators c.sweep.ensures.operators

pub returns-in-NoMemory-clause-operators : goal.returns-in-NoMemory-clause-operators
returns-in-NoMemory-clause-operators g c = operators_then c.args.self.now.tree c.loop-end.self.tree c.sweep.new.self.tree c.loop-end.invariant.operators c.sweep.ensures.operators

pub returns-in-Still-clause-falls : goal.returns-in-Still-clause-falls
returns-in-Still-clause-falls g c = drained_falls g.S.Source c.args.self.now c.loop-end.self c.sweep.new.self c.loop-end.end c.loop-end.invariant c.in-Still.ensures.falls

pub loop-end-init : goal.loop-end-init
loop-end-init g c = drained_none g.S.Source c.args.self.now c.stands.ensures.stands

pub loop-end-preserved : goal.loop-end-preserved
loop-end-preserved g c = drained_more g.S.Source c.args.self.now c.loop-end.self c.sweep.new.self c.loop-end.end c.loop-end.invariant c.sweep.ensures.stands c.sweep.ensures.operators c.sweep.ensures.members c.in-Moved.ensures.falls
