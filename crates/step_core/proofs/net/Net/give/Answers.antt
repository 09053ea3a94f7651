use Rattle.step_core.specs.Viewed.{tree_of}
use Rattle.step_core.proofs.Keeping.{net_kept}
use Rattle.step_core.proofs.net.Net.give.Goals as goal

pub invariant_of-self : goal.invariant_of-self
invariant_of-self g c = net_kept g.S.Source (tree_of c.self.inside.tree) (tree_of c.give.new.self) c.self.inside.edge c.self.inside.rows c.give.ensures.kept c.self.invariant
