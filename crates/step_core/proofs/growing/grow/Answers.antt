use Rattle.step_core.proofs.Piling.{grown_first, grown_is, grown_more, grown_some, piece_next}
use Rattle.step_core.proofs.growing.grow.Goals as goal

pub loop-node-init : goal.loop-node-init
loop-node-init g c = λ p h. grown_first p c.args.tree.now c.nodes-nodes.result.now c.new-pile.result c.args.atoms.items c.from-next_atoms.result.items c.args.joins.items c.from-next_joins.result.items h c.nodes-nodes.ensures c.new-pile.ensures c.from-next_atoms.ensures.0 c.from-next_joins.ensures.0

pub add-requires : goal.add-requires
add-requires g c = piece_next c.requires.0 c.nodes-nodes.result.now c.loop-node.node-index _ c.loop-node.pile c.loop-node.next_atoms.items c.loop-node.next_joins.items c.loop-node-test.true c.requires.1.1 (c.loop-node.invariant c.requires.0 c.requires.1.0)

pub loop-node-preserved : goal.loop-node-preserved
loop-node-preserved g c = λ p h. grown_more p c.nodes-nodes.result.now c.loop-node.node-index _ c.loop-node.pile c.add.new.pile c.loop-node.next_atoms.items c.add.new.atoms.items c.loop-node.next_joins.items c.add.new.joins.items
    c.loop-node-test.true (c.loop-node.invariant p h) c.in_ok-add.ensures

pub pop-requires : goal.pop-requires
pop-requires g c = grown_some c.requires.0 c.nodes-nodes.result.now c.loop-node.node-index c.loop-node.pile c.loop-node.next_atoms.items c.loop-node.next_joins.items c.loop-node-test.false (c.loop-node.invariant c.requires.0 c.requires.1.0)

pub returns : goal.returns
returns g c = λ p h. grown_is p c.nodes-nodes.result.now c.loop-node.node-index c.loop-node.pile c.pop.result c.pop.new.self c.loop-node.next_atoms.items c.loop-node.next_joins.items c.loop-node-test.false (c.loop-node.invariant p h) c.pop.ensures
