use Rattle.step_core.specs.Viewed.{tree_of}
use Rattle.step_core.proofs.Falling.{list_falls}
use Rattle.step_core.proofs.net.Net.list_turn.Goals as goal

pub returns-clause-falls : goal.returns-clause-falls
returns-clause-falls g c = list_falls g.S.Source c.args.self.now (tree_of c.self.inside.tree) c.self.inside.edge c.list_step.new.edge c.self.inside.rows c.list_step.new.rows c.list_step.result c.list_step.ensures c.self.view_is c.self.invariant
