use Rattle.std.proofs.Common.{ℕ, suc, ◌≡◌, ◌+◌, ◌≤◌, inl, inr, length, refl, sym, ap, subst, ◌∙◌, arith}
use Rattle.step_core.specs.Nets.{LeafState, leaf}
use Rattle.step_core.specs.declared.actor.StepEnd.TheVariants as step_end
use Rattle.step_core.proofs.Giving.{same_waits}
use Rattle.step_core.proofs.Going.{goes_same}
use Rattle.step_core.proofs.Leafing.{HasRead, members_same, read_all, read_idle, read_members, read_moved, read_none, read_stood, read_stopped}
use Rattle.step_core.proofs.Running.{GoesOnFrom}
use Rattle.step_core.proofs.leaf_node.LeafNode.read.Goals.{in-Moved, in-Still}
use Rattle.step_core.proofs.leaf_node.LeafNode.read.Goals as goal

one_more : (n : ℕ) → suc n ≡ n + 1
one_more n = Prim.omega arith

pub returns-then-closed-clause-goes : goal.returns-then-closed-clause-goes
returns-then-closed-clause-goes g c = goes_same g.S.Source (leaf c.args.self.now) c.args.out.now

pub returns-then-closed-clause-members : goal.returns-then-closed-clause-members
returns-then-closed-clause-members g c = members_same g.S.Source c.args.self.now.collecting.members

pub returns-then-not-has_room-clause-goes : goal.returns-then-not-has_room-clause-goes
returns-then-not-has_room-clause-goes g c = goes_same g.S.Source (leaf c.args.self.now) c.args.out.now

pub returns-then-not-has_room-clause-members : goal.returns-then-not-has_room-clause-members
returns-then-not-has_room-clause-members g c = members_same g.S.Source c.args.self.now.collecting.members

pub returns-then-closed-clause-reads : goal.returns-then-closed-clause-reads
returns-then-closed-clause-reads g c = λ enough. inl (inl (sym c.closed.ensures ∙ c.if-closed.true))

pub returns-then-closed-clause-idle : goal.returns-then-closed-clause-idle
returns-then-closed-clause-idle g c = λ still. (same_waits c.args.out.now, inl (inl (sym c.closed.ensures ∙ c.if-closed.true), refl))

pub returns-then-not-has_room-clause-reads : goal.returns-then-not-has_room-clause-reads
returns-then-not-has_room-clause-reads g c = λ enough. inl (inr (sym c.has_room.ensures ∙ c.if-not-has_room.true))

pub returns-then-not-has_room-clause-idle : goal.returns-then-not-has_room-clause-idle
returns-then-not-has_room-clause-idle g c = λ still. (same_waits c.args.out.now, inl (inr (sym c.has_room.ensures ∙ c.if-not-has_room.true), refl))

pub loop-index-init : goal.loop-index-init
loop-index-init g c = (read_none g.S.Source c.args.self.now c.args.out.now (sym c.closed.ensures ∙ c.if-closed.false), tt)

pub returns-in-NoMemory-clause-goes : goal.returns-in-NoMemory-clause-goes
returns-in-NoMemory-clause-goes g c = (read_stopped g.S.Source c.loop-index.index c.args.self.now c.loop-index.self c.read_member.new.self c.args.out.now c.loop-index.out c.read_member.new.out c.loop-index.end c.loop-index.invariant.0 c.in-NoMemory.ensures.reads).goes

pub returns-in-NoMemory-clause-members : goal.returns-in-NoMemory-clause-members
returns-in-NoMemory-clause-members g c = read_members g.S.Source _ c.args.self.now c.read_member.new.self c.args.out.now c.read_member.new.out step_end.NoMemory
    (read_stopped g.S.Source c.loop-index.index c.args.self.now c.loop-index.self c.read_member.new.self c.args.out.now c.loop-index.out c.read_member.new.out c.loop-index.end c.loop-index.invariant.0 c.in-NoMemory.ensures.reads)

pub loop-index-preserved : goal.loop-index-preserved
loop-index-preserved g c = elim c.match-read_member.branch [
  | in-Moved w ↦ subst (λ e. HasRead g.S.Source (c.loop-index.index + 1) c.args.self.now c.read_member.new.self c.args.out.now c.read_member.new.out e × GoesOnFrom e) (sym w.end-is) (
    subst (λ n. HasRead g.S.Source n c.args.self.now c.read_member.new.self c.args.out.now c.read_member.new.out step_end.Moved) (one_more c.loop-index.index)
        (read_moved g.S.Source c.loop-index.index c.args.self.now c.loop-index.self c.read_member.new.self c.args.out.now c.loop-index.out c.read_member.new.out c.loop-index.end c.loop-index.invariant.1 c.loop-index.invariant.0 w.in-Moved.ensures.reads),
    tt,
  )
  | in-Still w ↦ subst (λ e. HasRead g.S.Source (c.loop-index.index + 1) c.args.self.now c.read_member.new.self c.args.out.now c.read_member.new.out e × GoesOnFrom e) (sym w.end-is) (
    subst (λ n. HasRead g.S.Source n c.args.self.now c.read_member.new.self c.args.out.now c.read_member.new.out c.loop-index.end) (one_more c.loop-index.index)
        (read_stood g.S.Source c.loop-index.index c.args.self.now c.loop-index.self c.read_member.new.self c.args.out.now c.loop-index.out c.read_member.new.out c.loop-index.end c.loop-index.invariant.0 w.in-Still.ensures.reads (w.in-Still.ensures.still refl)),
    c.loop-index.invariant.1,
  )
]

pub returns-clause-members : goal.returns-clause-members
returns-clause-members g c = read_members g.S.Source c.loop-index.index c.args.self.now c.loop-index.self c.args.out.now c.loop-index.out c.loop-index.end c.loop-index.invariant.0

every : {S : Type 0} (l m : LeafState S) (count index : ℕ) → m ≡ l → count ≡ length m.collecting.members → count ≤ index → length l.collecting.members ≤ index
every l m count index is counts over = let same : length l.collecting.members ≡ count = sym (ap (λ k. length k.collecting.members) is) ∙ sym counts in Prim.omega (arith, same, over)

pub returns-clause-reads : goal.returns-clause-reads
returns-clause-reads g c = read_all g.S.Source c.loop-index.index c.args.self.now c.loop-index.self c.args.out.now c.loop-index.out c.loop-index.end (every c.args.self.now _ c.len-index-end.result c.loop-index.index c.self.view_is c.len-index-end.ensures c.loop-index-test.false) c.loop-index.invariant.0

pub returns-clause-idle : goal.returns-clause-idle
returns-clause-idle g c = read_idle g.S.Source c.loop-index.index c.args.self.now c.loop-index.self c.args.out.now c.loop-index.out c.loop-index.end (every c.args.self.now _ c.len-index-end.result c.loop-index.index c.self.view_is c.len-index-end.ensures c.loop-index-test.false) c.loop-index.invariant.0
