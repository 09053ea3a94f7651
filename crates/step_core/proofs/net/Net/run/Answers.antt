use Rattle.std.proofs.lemmas.List.{drop_all}
use Rattle.std.proofs.Common.{◌+◌, drop, sym, subst, arith}
use Rattle.step_core.proofs.Answering.{answered}
use Rattle.step_core.proofs.Running.{HasRun, ends_with, moved, next, stood, stops}
use Rattle.step_core.proofs.net.Net.run.Goals.{in-Moved, in-Still}
use Rattle.step_core.proofs.net.Net.run.Goals as goal

pub returns-in-NoMemory-clause-runs : goal.returns-in-NoMemory-clause-runs
returns-in-NoMemory-clause-runs g c = stops g.S.Source c.args.schedule.now (drop (c.loop-actor.actor-index + 1) c.args.schedule.now) _ c.args.self.now c.loop-actor.self c.step.new.self c.loop-actor.end
    (next g.S.Source c.args.schedule.now c.loop-actor.actor-index _ c.args.self.now c.loop-actor.self c.loop-actor.end c.loop-actor-test.true c.loop-actor.invariant) c.in-NoMemory.ensures.steps c.step.ensures.stands

pub loop-actor-preserved : goal.loop-actor-preserved
loop-actor-preserved g c = elim c.match-step.branch [
  | in-Moved w ↦ subst (λ e. HasRun g.S.Source c.args.schedule.now (drop (c.loop-actor.actor-index + 1) c.args.schedule.now) c.args.self.now c.step.new.self e) (sym w.end-is)
      (moved g.S.Source c.args.schedule.now (drop (c.loop-actor.actor-index + 1) c.args.schedule.now) _ c.args.self.now c.loop-actor.self c.step.new.self c.loop-actor.end
      (next g.S.Source c.args.schedule.now c.loop-actor.actor-index _ c.args.self.now c.loop-actor.self c.loop-actor.end c.loop-actor-test.true c.loop-actor.invariant) w.in-Moved.ensures.steps c.step.ensures.stands w.in-Moved.ensures.falls)
  | in-Still w ↦ subst (λ e. HasRun g.S.Source c.args.schedule.now (drop (c.loop-actor.actor-index + 1) c.args.schedule.now) c.args.self.now c.step.new.self e) (sym w.end-is)
      (stood g.S.Source c.args.schedule.now (drop (c.loop-actor.actor-index + 1) c.args.schedule.now) _ c.args.self.now c.loop-actor.self c.step.new.self c.loop-actor.end
      (next g.S.Source c.args.schedule.now c.loop-actor.actor-index _ c.args.self.now c.loop-actor.self c.loop-actor.end c.loop-actor-test.true c.loop-actor.invariant) w.in-Still.ensures.steps c.step.ensures.stands w.in-Still.ensures.falls)
]

pub returns-clause-runs : goal.returns-clause-runs
returns-clause-runs g c = ends_with g.S.Source c.args.schedule.now c.args.self.now c.loop-actor.self c.loop-actor.end (subst (λ left. HasRun g.S.Source c.args.schedule.now left c.args.self.now c.loop-actor.self c.loop-actor.end) (drop_all c.loop-actor.actor-index c.args.schedule.now (Prim.omega (arith, c.loop-actor-test.false))) c.loop-actor.invariant)

pub returns-in-NoMemory-clause-answered : goal.returns-in-NoMemory-clause-answered
returns-in-NoMemory-clause-answered g c = answered g.S.Source c.step.new.self c.step.ensures.stands

pub returns-clause-stands : goal.returns-clause-stands
returns-clause-stands g c = c.loop-actor.invariant.stands

pub returns-clause-answered : goal.returns-clause-answered
returns-clause-answered g c = answered g.S.Source c.loop-actor.self c.loop-actor.invariant.stands
