use Rattle.std.proofs.Common.{refl, subst}
use Rattle.collect_core.specs.Steps.{StepsHeld}
use Rattle.step_core.specs.Leaves.{TakesHeld}
use Rattle.step_core.proofs.Sending.{sends}
use Rattle.step_core.proofs.leaf_node.LeafNode.accept.Goals as goal

pub returns : goal.returns
returns g c = subst (λ l. TakesHeld g.S.Source l (record { atom = c.self.inside.atom; collecting = c.accept-collected.new.self }) c.args.index c.args.out.now c.send.new.out c.send.result) c.self.view_is
    (sends g.S.Source (StepsHeld g.S.Source) (record { atom = c.self.inside.atom; collecting = c.self.inside.collector }) (record { atom = c.self.inside.atom; collecting = c.accept-collected.new.self }) c.args.index c.args.out.now c.reserve.new.self c.send.new.out c.accept-collected.result c.send.result
    c.requires.goes_on c.reserve.ensures.same
    (record { acts = c.accept-collected.ensures.steps; gathers = c.accept-collected.ensures.gathers; falls = c.accept-collected.ensures.falls; width = c.stands.ensures.width; within = c.stands.ensures.within; told = c.stands.ensures.told; sound = c.accept-collected.ensures.sound })
    refl c.send.ensures.end c.send.ensures.put)
