use Rattle.std.proofs.Common.{◌≡◌, true, subst}
use Rattle.step_core.specs.Wholes.{HasAnswered}
use Rattle.step_core.proofs.Answering.{answered}
use Rattle.step_core.proofs.net.Net.stands.Goals as goal

pub returns-clause-answered : goal.returns-clause-answered
returns-clause-answered g c = subst (λ n. n.edge.taken ≡ true → HasAnswered g.S.Source n) c.self.view_is (answered g.S.Source _ c.self.invariant)
