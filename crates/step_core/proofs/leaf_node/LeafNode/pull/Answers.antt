use Rattle.std.proofs.Common.{refl, sym, subst, ◌∙◌}
use Rattle.collect_core.specs.Steps.{Steps}
use Rattle.step_core.specs.Leaves.{Pulls}
use Rattle.step_core.proofs.Sending.{sends}
use Rattle.step_core.proofs.leaf_node.LeafNode.pull.Goals as goal

pub returns : goal.returns
returns g c = subst (λ l. Pulls g.S.Source l (record { atom = c.self.inside.atom; collecting = c.step-collected.new.self }) c.args.index c.args.out.now c.send.new.out c.send.result) c.self.view_is
    (sends g.S.Source (Steps g.S.Source) (record { atom = c.self.inside.atom; collecting = c.self.inside.collector }) (record { atom = c.self.inside.atom; collecting = c.step-collected.new.self }) c.args.index c.args.out.now c.reserve.new.self c.send.new.out c.step-collected.result c.send.result
    (sym c.closed.ensures ∙ c.if-closed.false) c.reserve.ensures.same
    (record { acts = c.step-collected.ensures.steps; gathers = c.step-collected.ensures.gathers; falls = c.step-collected.ensures.falls; width = c.stands.ensures.width; within = c.stands.ensures.within; told = c.stands.ensures.told; sound = c.step-collected.ensures.sound })
    refl c.send.ensures.end c.send.ensures.put)
