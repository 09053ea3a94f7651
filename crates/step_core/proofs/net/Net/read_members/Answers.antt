use Rattle.std.proofs.Common.{sym, subst}
use Rattle.step_core.specs.Passes.{NetIsQuiet}
use Rattle.step_core.specs.Viewed.{tree_of}
use Rattle.step_core.proofs.Draining.{net_falls, net_goes, net_same}
use Rattle.step_core.proofs.Resting.{net_idle_quiet}
use Rattle.step_core.proofs.net.Net.read_members.Goals as goal

pub invariant_of-self : goal.invariant_of-self
invariant_of-self g c = net_goes g.S.Source c.read.result (tree_of c.self.inside.tree) (tree_of c.read.new.self) c.self.inside.edge c.read.new.out c.self.inside.rows c.read.ensures.goes c.self.invariant

pub returns-clause-stands : goal.returns-clause-stands
returns-clause-stands g c = net_goes g.S.Source c.read.result (tree_of c.self.inside.tree) (tree_of c.read.new.self) c.self.inside.edge c.read.new.out c.self.inside.rows c.read.ensures.goes c.self.invariant

pub returns-clause-falls : goal.returns-clause-falls
returns-clause-falls g c = net_falls g.S.Source c.read.result c.args.self.now (tree_of c.self.inside.tree) (tree_of c.read.new.self) c.self.inside.edge c.read.new.out c.self.inside.rows c.read.ensures.goes c.self.view_is c.self.invariant

pub returns-clause-operators : goal.returns-clause-operators
returns-clause-operators g c = net_same g.S.Source c.read.result c.args.self.now (tree_of c.self.inside.tree) (tree_of c.read.new.self) c.self.inside.edge c.read.new.out c.self.inside.rows c.read.ensures.goes c.self.view_is c.self.invariant

pub returns-clause-quiet : goal.returns-clause-quiet
returns-clause-quiet g c = λ still quiet. net_idle_quiet g.S.Source (record { tree = tree_of c.self.inside.tree; edge = c.self.inside.edge; rows = c.self.inside.rows }) (record { tree = tree_of c.read.new.self; edge = c.read.new.out; rows = c.self.inside.rows }) (c.read.ensures.idle still) (subst NetIsQuiet (sym c.self.view_is) quiet)
