use Rattle.answer_theory.proofs.Bags.{bag_map, bag_filter, bag_flat_map, bag_flat_map_alike, bag_exchange}
use Rattle.answer_theory.proofs.bag_laws.bags_made.Goals as goal

pub returns-clause-map : goal.returns-clause-map
returns-clause-map g c = λ h xs ys k. bag_map h k

pub returns-clause-filter : goal.returns-clause-filter
returns-clause-filter g c = λ test xs ys k. bag_filter test k

pub returns-clause-flat_map : goal.returns-clause-flat_map
returns-clause-flat_map g c = λ h xs ys k. bag_flat_map h k

pub returns-clause-flat_map_alike : goal.returns-clause-flat_map_alike
returns-clause-flat_map_alike g c = bag_flat_map_alike

pub returns-clause-exchange : goal.returns-clause-exchange
returns-clause-exchange g c = bag_exchange
