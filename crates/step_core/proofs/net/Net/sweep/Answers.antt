use Rattle.std.proofs.Common.{sym, subst}
use Rattle.step_core.specs.Same.{SameOperators}
use Rattle.step_core.specs.Viewed.{tree_of}
use Rattle.step_core.proofs.Draining.{net_goes, net_same}
use Rattle.step_core.proofs.net.Net.sweep.Goals as goal

pub invariant_of-self : goal.invariant_of-self
invariant_of-self g c = net_goes g.S.Source c.sweep-end.result (tree_of c.self.inside.tree) (tree_of c.sweep-end.new.self) c.self.inside.edge c.sweep-end.new.out c.self.inside.rows c.sweep-end.ensures.goes c.self.invariant

pub returns-clause-operators : goal.returns-clause-operators
returns-clause-operators g c = subst (SameOperators c.args.self.now.tree) (sym c.take_rows.ensures.tree) (net_same g.S.Source c.sweep-end.result c.args.self.now (tree_of c.self.inside.tree) (tree_of c.sweep-end.new.self) c.self.inside.edge c.sweep-end.new.out c.self.inside.rows c.sweep-end.ensures.goes c.self.view_is c.self.invariant)
