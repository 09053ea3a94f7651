use Rattle.std.proofs.Common.{sym, ap, subst}
use Rattle.row_match.specs.declared.shape.Side.TheVariants as side
use Rattle.step_core.specs.Going.{Goes, then}
use Rattle.step_core.specs.Nets.{leaf}
use Rattle.step_core.specs.Viewed.{tree_of}
use Rattle.step_core.proofs.Ending.{all_ends}
use Rattle.step_core.proofs.Going.{both_go, goes_close, may_after, one_goes, swept_goes}
use Rattle.step_core.proofs.Resting.{quiet_join}
use Rattle.step_core.proofs.node.Node.+sweep.Goals as goal

pub take_some-lefts-requires : goal.take_some-lefts-requires
take_some-lefts-requires g t c = may_after g.S.Source side.Left (then c.sweep.result c.sweep-in-Join.result) (tree_of c.args.self.now) _ (tree_of c.sweep.new.self) (tree_of c.sweep-in-Join.new.self) c.args.out.now c.args.out.now
    (both_go g.S.Source c.sweep.result c.sweep-in-Join.result (tree_of c.args.self.now) c.in-Join.join _ (tree_of c.in-Join.left.value) (tree_of c.in-Join.right.value) (tree_of c.deref_mut.result.now) (tree_of c.sweep.new.self) (tree_of c.deref_mut-in-Join.result.now) (tree_of c.sweep-in-Join.new.self) c.sweep.new.out c.sweep-in-Join.new.out c.args.out.now
    (ap tree_of c.in-Join.is) c.join.view_is (ap tree_of c.deref_mut.ensures.value) (ap tree_of c.deref_mut-in-Join.ensures.value) c.sweep.ensures.goes c.sweep-in-Join.ensures.goes) c.requires.stands

pub take_some-rights-requires : goal.take_some-rights-requires
take_some-rights-requires g t c = may_after g.S.Source side.Right (then (then c.sweep.result c.sweep-in-Join.result) c.take_some-lefts.result) (tree_of c.args.self.now) c.take_some-lefts.new.self (tree_of c.sweep.new.self) (tree_of c.sweep-in-Join.new.self) c.args.out.now c.take_some-lefts.new.out
    (one_goes g.S.Source side.Left (then c.sweep.result c.sweep-in-Join.result) c.take_some-lefts.result (tree_of c.args.self.now) _ c.take_some-lefts.new.self (tree_of c.sweep.new.self) (tree_of c.sweep-in-Join.new.self) c.args.out.now c.args.out.now c.take_some-lefts.new.out
    (both_go g.S.Source c.sweep.result c.sweep-in-Join.result (tree_of c.args.self.now) c.in-Join.join _ (tree_of c.in-Join.left.value) (tree_of c.in-Join.right.value) (tree_of c.deref_mut.result.now) (tree_of c.sweep.new.self) (tree_of c.deref_mut-in-Join.result.now) (tree_of c.sweep-in-Join.new.self) c.sweep.new.out c.sweep-in-Join.new.out c.args.out.now
    (ap tree_of c.in-Join.is) c.join.view_is (ap tree_of c.deref_mut.ensures.value) (ap tree_of c.deref_mut-in-Join.ensures.value) c.sweep.ensures.goes c.sweep-in-Join.ensures.goes) c.take_some-lefts.ensures) c.requires.stands

pub returns-in-Leaf-clause-goes : goal.returns-in-Leaf-clause-goes
returns-in-Leaf-clause-goes g t c = subst (λ n. Goes g.S.Source c.close.result (tree_of n) (leaf c.close.new.self) c.args.out.now c.close.new.out) (sym c.in-Leaf.is) (goes_close g.S.Source c.in-Leaf.leaf c.close.new.self c.args.out.now c.close.new.out c.close.result c.close.ensures)

pub returns-in-Join-clause-goes : goal.returns-in-Join-clause-goes
returns-in-Join-clause-goes g t c = swept_goes g.S.Source c.then-in-Join-2.result (then c.sweep.result c.sweep-in-Join.result) c.take_some-lefts.result c.take_some-rights.result c.close-closing.result (tree_of c.args.self.now) _ c.take_some-lefts.new.self c.take_some-rights.new.self c.close-closing.new.self (tree_of c.sweep.new.self) (tree_of c.sweep-in-Join.new.self) c.args.out.now c.take_some-lefts.new.out c.take_some-rights.new.out c.close-closing.new.out
    (all_ends c.then-in-Join-2.result c.then-below.result c.then.result c.then-in-Join.result c.sweep.result c.sweep-in-Join.result c.take_some-lefts.result c.take_some-rights.result c.close-closing.result c.then-in-Join-2.ensures c.then-below.ensures c.then-in-Join.ensures c.then.ensures)
    (both_go g.S.Source c.sweep.result c.sweep-in-Join.result (tree_of c.args.self.now) c.in-Join.join _ (tree_of c.in-Join.left.value) (tree_of c.in-Join.right.value) (tree_of c.deref_mut.result.now) (tree_of c.sweep.new.self) (tree_of c.deref_mut-in-Join.result.now) (tree_of c.sweep-in-Join.new.self) c.sweep.new.out c.sweep-in-Join.new.out c.args.out.now
    (ap tree_of c.in-Join.is) c.join.view_is (ap tree_of c.deref_mut.ensures.value) (ap tree_of c.deref_mut-in-Join.ensures.value) c.sweep.ensures.goes c.sweep-in-Join.ensures.goes) c.take_some-lefts.ensures c.take_some-rights.ensures c.close-closing.ensures

pub returns-in-Join-clause-quiet : goal.returns-in-Join-clause-quiet
returns-in-Join-clause-quiet g t c = quiet_join c.then-in-Join-2.result c.sweep.result c.sweep-in-Join.result c.take_some-lefts.result c.take_some-rights.result c.close-closing.result _ c.take_some-lefts.new.self c.take_some-rights.new.self c.close-closing.new.self (tree_of c.sweep.new.self) (tree_of c.sweep-in-Join.new.self) c.args.out.now c.take_some-lefts.new.out c.take_some-rights.new.out c.close-closing.new.out
    (all_ends c.then-in-Join-2.result c.then-below.result c.then.result c.then-in-Join.result c.sweep.result c.sweep-in-Join.result c.take_some-lefts.result c.take_some-rights.result c.close-closing.result c.then-in-Join-2.ensures c.then-below.ensures c.then-in-Join.ensures c.then.ensures)
    c.sweep.ensures.quiet c.sweep-in-Join.ensures.quiet c.take_some-lefts.ensures c.take_some-rights.ensures c.owes_nothing.ensures c.close-closing.ensures
