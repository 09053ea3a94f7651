use Rattle.step_core.specs.Members.{members_of}
use Rattle.step_core.proofs.Same.{operators_then}
use Rattle.frag_run.proofs.Running.{all_go, all_same, all_then, idles, moves}
use Rattle.frag_run.proofs.passes.pass.Goals as goal

pub returns-in-Still-clause-members : goal.returns-in-Still-clause-members
returns-in-Still-clause-members g c = all_go g.S.Source (members_of c.args.net.now.tree) (members_of c.read_members.new.self.tree) c.read_members.ensures.members

pub returns-in-Still-clause-passes : goal.returns-in-Still-clause-passes
returns-in-Still-clause-passes g c = idles g.S.Source c.args.net.now c.read_members.new.self c.args.idle c.requires.few c.requires.quiet (c.read_members.ensures.idle c.in-Still.is) (c.read_members.ensures.quiet c.in-Still.is c.requires.quiet) c.in-Still.ensures.falls

pub returns-in-NoMemory-clause-members : goal.returns-in-NoMemory-clause-members
returns-in-NoMemory-clause-members g c = all_go g.S.Source (members_of c.args.net.now.tree) (members_of c.read_members.new.self.tree) c.read_members.ensures.members

pub returns-in_default-clause-operators : goal.returns-in_default-clause-operators
returns-in_default-clause-operators g c = operators_then c.args.net.now.tree c.read_members.new.self.tree c.settle.new.net.tree c.read_members.ensures.operators c.settle.ensures.operators

pub returns-in_default-clause-members : goal.returns-in_default-clause-members
returns-in_default-clause-members g c = all_then g.S.Source (members_of c.args.net.now.tree) (members_of c.read_members.new.self.tree) (members_of c.settle.new.net.tree)
    (all_go g.S.Source (members_of c.args.net.now.tree) (members_of c.read_members.new.self.tree) c.read_members.ensures.members)
    (all_same g.S.Source (members_of c.read_members.new.self.tree) (members_of c.settle.new.net.tree) c.settle.ensures.members)

pub returns-clause-operators : goal.returns-clause-operators
returns-clause-operators g c = operators_then c.args.net.now.tree c.read_members.new.self.tree c.settle.new.net.tree c.read_members.ensures.operators c.settle.ensures.operators

pub returns-clause-members : goal.returns-clause-members
returns-clause-members g c = all_then g.S.Source (members_of c.args.net.now.tree) (members_of c.read_members.new.self.tree) (members_of c.settle.new.net.tree)
    (all_go g.S.Source (members_of c.args.net.now.tree) (members_of c.read_members.new.self.tree) c.read_members.ensures.members)
    (all_same g.S.Source (members_of c.read_members.new.self.tree) (members_of c.settle.new.net.tree) c.settle.ensures.members)

pub returns-clause-passes : goal.returns-clause-passes
returns-clause-passes g c = moves g.S.Source c.args.net.now c.read_members.new.self c.settle.new.net c.args.idle c.in-Moved.ensures.falls c.in-Ok.ensures.falls c.in-Ok.ensures.quiet
