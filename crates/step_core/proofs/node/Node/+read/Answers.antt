use Rattle.std.proofs.Common.{refl, sym, ap, ◌∙◌}
use Rattle.step_core.specs.Going.{then}
use Rattle.step_core.specs.Members.{members_of}
use Rattle.step_core.specs.Viewed.{tree_of}
use Rattle.step_core.specs.declared.actor.StepEnd.TheVariants as step_end
use Rattle.step_core.proofs.Forking.{both_idle, both_members, both_read}
use Rattle.step_core.proofs.Going.{both_go, ends_so, left_goes}
use Rattle.step_core.proofs.Leafing.{members_same}
use Rattle.step_core.proofs.node.Node.+read.Goals as goal

pub returns-in-NoMemory-clause-goes : goal.returns-in-NoMemory-clause-goes
returns-in-NoMemory-clause-goes g t c = left_goes g.S.Source step_end.NoMemory (tree_of c.args.self.now) c.in-Join.join _ (tree_of c.in-Join.left.value) (tree_of c.in-Join.right.value) (tree_of c.deref_mut.result.now) (tree_of c.read-in-Join.new.self) c.read-in-Join.new.out c.args.out.now
    (ap tree_of c.in-Join.is) c.join.view_is (ap tree_of c.deref_mut.ensures.value) c.in-NoMemory.ensures.goes

pub returns-in-NoMemory-clause-members : goal.returns-in-NoMemory-clause-members
returns-in-NoMemory-clause-members g t c = both_members g.S.Source (tree_of c.args.self.now) c.in-Join.join (tree_of c.in-Join.left.value) (tree_of c.in-Join.right.value) (tree_of c.deref_mut.result.now) (tree_of c.read-in-Join.new.self) (tree_of c.in-Join.right.value) (tree_of c.in-Join.right.value)
    (ap tree_of c.in-Join.is) (ap tree_of c.deref_mut.ensures.value) refl c.in-NoMemory.ensures.members (members_same g.S.Source (members_of (tree_of c.in-Join.right.value)))

pub returns-in_default : goal.returns-in_default
returns-in_default g t c = record {
  goes = ends_so g.S.Source c.then.result (then c.read-in-Join.result c.read-in-Join-2.result) (tree_of c.args.self.now) _ c.args.out.now c.args.out.now c.then.ensures
      (both_go g.S.Source c.read-in-Join.result c.read-in-Join-2.result (tree_of c.args.self.now) c.in-Join.join _ (tree_of c.in-Join.left.value) (tree_of c.in-Join.right.value) (tree_of c.deref_mut.result.now) (tree_of c.read-in-Join.new.self)
      (tree_of c.deref_mut-in-Join.result.now) (tree_of c.read-in-Join-2.new.self) c.read-in-Join.new.out c.read-in-Join-2.new.out c.args.out.now (ap tree_of c.in-Join.is) c.join.view_is (ap tree_of c.deref_mut.ensures.value) (ap tree_of c.deref_mut-in-Join.ensures.value)
      c.read-in-Join.ensures.goes c.read-in-Join-2.ensures.goes);
  members = both_members g.S.Source (tree_of c.args.self.now) c.in-Join.join (tree_of c.in-Join.left.value) (tree_of c.in-Join.right.value) (tree_of c.deref_mut.result.now) (tree_of c.read-in-Join.new.self) (tree_of c.deref_mut-in-Join.result.now) (tree_of c.read-in-Join-2.new.self)
      (ap tree_of c.in-Join.is) (ap tree_of c.deref_mut.ensures.value) (ap tree_of c.deref_mut-in-Join.ensures.value) c.read-in-Join.ensures.members c.read-in-Join-2.ensures.members;
  reads = λ enough. both_read g.S.Source (tree_of c.args.self.now) c.in-Join.join _ (tree_of c.in-Join.left.value) (tree_of c.in-Join.right.value) (tree_of c.deref_mut.result.now) (tree_of c.read-in-Join.new.self) (tree_of c.deref_mut-in-Join.result.now) (tree_of c.read-in-Join-2.new.self)
      c.read-in-Join.new.out c.read-in-Join-2.new.out c.args.out.now c.read-in-Join.result c.read-in-Join-2.result (ap tree_of c.in-Join.is) c.join.view_is (ap tree_of c.deref_mut.ensures.value) (ap tree_of c.deref_mut-in-Join.ensures.value) (λ short. enough (c.then.ensures ∙ short))
      c.read-in-Join.ensures.reads c.read-in-Join-2.ensures.reads;
  idle = λ still. both_idle g.S.Source (tree_of c.args.self.now) c.in-Join.join _ (tree_of c.in-Join.left.value) (tree_of c.in-Join.right.value) (tree_of c.deref_mut.result.now) (tree_of c.read-in-Join.new.self) (tree_of c.deref_mut-in-Join.result.now) (tree_of c.read-in-Join-2.new.self)
      c.read-in-Join.new.out c.read-in-Join-2.new.out c.args.out.now c.read-in-Join.result c.read-in-Join-2.result (ap tree_of c.in-Join.is) c.join.view_is (ap tree_of c.deref_mut.ensures.value) (ap tree_of c.deref_mut-in-Join.ensures.value) (sym c.then.ensures ∙ still)
      c.read-in-Join.ensures.idle c.read-in-Join-2.ensures.idle;
}
