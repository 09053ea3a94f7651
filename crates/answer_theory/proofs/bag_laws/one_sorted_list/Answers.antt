use Rattle.answer_theory.proofs.Sorted.{one_sorted}
use Rattle.answer_theory.proofs.bag_laws.one_sorted_list.Goals as goal

pub returns : goal.returns
returns g c = one_sorted
