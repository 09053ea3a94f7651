use Rattle.std.proofs.Common.{true, false, length, sym, ap, ◌∙◌}
use Rattle.step_core.specs.Nets.{JoinState}
use Rattle.step_core.proofs.Giving.{gives_no_memory, gives_nothing, gives_out, puts_none, same_waits}
use Rattle.step_core.proofs.join_node.JoinNode.give.Goals.{in-Row+then-holds, in-Row+else-holds, in-Nothing, in-NoMemory}
use Rattle.step_core.proofs.join_node.JoinNode.give.Goals as goal

pub holds-requires : goal.holds-requires
holds-requires c = record { width = (c.in-Row.ensures.wide).0 ∙ ap (λ vs. length vs) (sym c.self.invariant) }

pub returns : goal.returns
returns c = elim c.match-next_out.branch [
  | in-Row+then-holds w ↦ gives_out s c.args.self.now c.next_out.new.self c.args.out.now c.reserve.new.self w.put.new.self c.match-next_out.out w.in-Row.row c.self.inside.filter.vars true c.match-next_out.result
      c.self.view_is w.result-is w.out-is c.reserve.ensures.same w.put.ensures c.self.invariant (sym w.if-holds.true ∙ w.holds.ensures) w.in-Row.ensures.gives w.in-Row.ensures.step (w.in-Row.ensures.wide).0
  | in-Row+else-holds w ↦ gives_out s c.args.self.now c.next_out.new.self c.args.out.now c.reserve.new.self c.reserve.new.self c.match-next_out.out w.in-Row.row c.self.inside.filter.vars false c.match-next_out.result
      c.self.view_is w.result-is w.out-is c.reserve.ensures.same (puts_none c.reserve.new.self c.reserve.new.self (same_waits c.reserve.new.self)) c.self.invariant (sym w.if-holds.false ∙ w.holds.ensures) w.in-Row.ensures.gives w.in-Row.ensures.step (w.in-Row.ensures.wide).0
  | in-Nothing w ↦ gives_nothing s c.args.self.now c.next_out.new.self c.args.out.now c.reserve.new.self c.match-next_out.out c.match-next_out.result c.self.view_is w.result-is w.out-is c.reserve.ensures.same w.in-Nothing.ensures.gives w.in-Nothing.ensures.step
  | in-NoMemory w ↦ gives_no_memory s c.args.self.now c.next_out.new.self c.args.out.now c.reserve.new.self c.match-next_out.out c.match-next_out.result c.self.view_is w.result-is w.out-is c.reserve.ensures.same w.in-NoMemory.ensures.gives
]
  where
    s : JoinState
    s = record { number = c.self.inside.number; joining = c.self.inside.join; comparisons = c.self.inside.filter.comparisons; left = c.self.inside.left; right = c.self.inside.right }
