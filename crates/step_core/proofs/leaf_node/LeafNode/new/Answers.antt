use Rattle.step_core.proofs.Suiting.{leaf_selects}
use Rattle.step_core.proofs.leaf_node.LeafNode.new.Goals as goal

pub returns-clause-selected : goal.returns-clause-selected
returns-clause-selected g c = leaf_selects g.S.Source (record { atom = c.args.atom.atom; collecting = c.in_ok-collector.collector }) c.in_ok-collector.ensures.accepted c.stands.ensures.told c.stands.ensures.sound
