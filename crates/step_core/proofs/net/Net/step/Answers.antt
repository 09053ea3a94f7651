use Rattle.std.proofs.Common.{◌≡◌, MatchOption, sym, subst}
use Rattle.step_core.specs.declared.actor.StepEnd.TheVariants as step_end
use Rattle.step_core.proofs.net.Net.step.Goals.{in-Some, in-None}
use Rattle.step_core.specs.Viewed.{tree_of}
use Rattle.step_core.proofs.Falling.{falls_after}
use Rattle.step_core.proofs.Obeying.{net_stands_after}
use Rattle.step_core.proofs.net.Net.step.Goals as goal

pub invariant_of-self : goal.invariant_of-self
invariant_of-self g c = net_stands_after g.S.Source c.args.actor (tree_of c.self.inside.tree) (tree_of c.step.new.self) c.self.inside.edge c.step.new.out c.self.inside.rows c.step.result c.step.ensures c.self.invariant

pub returns-clause-falls : goal.returns-clause-falls
returns-clause-falls g c = falls_after g.S.Source c.args.actor c.args.self.now (tree_of c.self.inside.tree) (tree_of c.step.new.self) c.self.inside.edge c.step.new.out c.self.inside.rows c.step.result c.match-step.result c.step.ensures
    (elim c.match-step.branch [
      | in-Some w ↦ subst (λ r. MatchOption r (c.match-step.result ≡ step_end.Still) (λ e. c.match-step.result ≡ e)) (sym w.in-Some.is) w.result-is
      | in-None w ↦ subst (λ r. MatchOption r (c.match-step.result ≡ step_end.Still) (λ e. c.match-step.result ≡ e)) (sym w.in-None.is) w.result-is
    ]) c.self.view_is c.self.invariant

pub returns-clause-stands : goal.returns-clause-stands
returns-clause-stands g c = net_stands_after g.S.Source c.args.actor (tree_of c.self.inside.tree) (tree_of c.step.new.self) c.self.inside.edge c.step.new.out c.self.inside.rows c.step.result c.step.ensures c.self.invariant
