use Rattle.step_core.proofs.Leafing.{pull_moved, pull_short, pull_still, pull_stood, reads_moved, reads_short}
use Rattle.step_core.proofs.leaf_node.LeafNode.read_member.Goals as goal

pub returns-in-Still-clause-reads : goal.returns-in-Still-clause-reads
returns-in-Still-clause-reads g c = pull_stood g.S.Source c.args.self.now c.pull.new.self c.args.index c.args.out.now c.pull.new.out c.requires.goes_on c.requires.inside c.in-Still.ensures

pub returns-in-Still-clause-still : goal.returns-in-Still-clause-still
returns-in-Still-clause-still g c = λ still. pull_still g.S.Source c.args.self.now c.pull.new.self c.args.index c.args.out.now c.pull.new.out c.requires.goes_on c.in-Still.ensures

pub returns-in-NoMemory-clause-reads : goal.returns-in-NoMemory-clause-reads
returns-in-NoMemory-clause-reads g c = pull_short g.S.Source c.args.self.now c.pull.new.self c.args.index c.args.out.now c.pull.new.out c.requires.goes_on c.requires.inside c.in-NoMemory.ensures

pub returns-in-Ok-clause-reads : goal.returns-in-Ok-clause-reads
returns-in-Ok-clause-reads g c = reads_moved g.S.Source c.args.self.now c.pull.new.self c.accept_all.new.self c.args.index c.args.out.now c.pull.new.out c.accept_all.new.out
    (pull_moved g.S.Source c.args.self.now c.pull.new.self c.args.index c.args.out.now c.pull.new.out c.requires.goes_on c.requires.inside c.in-Moved.ensures) c.in-Ok.ensures.ok

pub returns-in-Err-clause-reads : goal.returns-in-Err-clause-reads
returns-in-Err-clause-reads g c = reads_short g.S.Source c.args.self.now c.pull.new.self c.accept_all.new.self c.args.index c.args.out.now c.pull.new.out c.accept_all.new.out
    (pull_moved g.S.Source c.args.self.now c.pull.new.self c.args.index c.args.out.now c.pull.new.out c.requires.goes_on c.requires.inside c.in-Moved.ensures) c.in-Err.ensures.err
