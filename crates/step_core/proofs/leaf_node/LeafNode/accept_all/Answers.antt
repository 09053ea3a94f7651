use Rattle.std.proofs.Common.{sym, ◌∙◌}
use Rattle.step_core.proofs.Leafing.{held_less, reads_all, reads_full, reads_inside, reads_more, reads_none, reads_still}
use Rattle.step_core.specs.Passes.{MemberAccepts}
use Rattle.step_core.specs.declared.actor.StepEnd.TheVariants as step_end
use Rattle.step_core.proofs.leaf_node.LeafNode.accept_all.Goals as goal

pub loop-alloc-init : goal.loop-alloc-init
loop-alloc-init g c = reads_none g.S.Source c.args.self.now c.args.index c.args.out.now c.requires.goes_on c.requires.inside

pub accept-requires-clause-inside : goal.accept-requires-clause-inside
accept-requires-clause-inside g c = reads_inside g.S.Source MemberAccepts c.args.self.now c.loop-alloc.self c.args.index c.args.out.now c.loop-alloc.out step_end.Still c.loop-alloc.invariant c.requires.inside

pub loop-alloc-smaller : goal.loop-alloc-smaller
loop-alloc-smaller g c = held_less g.S.Source c.loop-alloc.self c.accept.new.self c.args.index c.loop-alloc.out c.accept.new.out c.in-Moved.ensures

pub loop-alloc-preserved : goal.loop-alloc-preserved
loop-alloc-preserved g c = reads_still g.S.Source MemberAccepts c.args.self.now c.accept.new.self c.args.index c.args.out.now c.accept.new.out
    (reads_more g.S.Source c.args.self.now c.loop-alloc.self c.accept.new.self c.args.index c.args.out.now c.loop-alloc.out c.accept.new.out step_end.Moved c.loop-alloc.invariant c.requires.inside c.in-Moved.ensures)

pub returns-in-Still-clause-ok : goal.returns-in-Still-clause-ok
returns-in-Still-clause-ok g c = reads_all g.S.Source c.args.self.now c.loop-alloc.self c.accept.new.self c.args.index c.args.out.now c.loop-alloc.out c.accept.new.out c.loop-alloc.invariant c.requires.inside c.in-Still.ensures

pub returns-clause-ok : goal.returns-clause-ok
returns-clause-ok g c = reads_full g.S.Source c.args.self.now c.loop-alloc.self c.args.index c.args.out.now c.loop-alloc.out c.loop-alloc.invariant (sym c.has_room.ensures ∙ c.loop-alloc-test.false)

pub returns-in-NoMemory-clause-err : goal.returns-in-NoMemory-clause-err
returns-in-NoMemory-clause-err g c = reads_more g.S.Source c.args.self.now c.loop-alloc.self c.accept.new.self c.args.index c.args.out.now c.loop-alloc.out c.accept.new.out step_end.NoMemory c.loop-alloc.invariant c.requires.inside c.in-NoMemory.ensures
