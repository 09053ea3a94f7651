use Rattle.std.proofs.Common.{sym}
use Rattle.answer_theory.proofs.Bags.{bag_trans, bag_from_same}
use Rattle.query_core.specs.Answers.{heads, solutions_of}
use Rattle.query_core.proofs.Heads.{heads_solutions, same_heads, same_order}
use Rattle.query_core.proofs.laws.same_values_answer.Goals as goal

pub returns-clause-heads : goal.returns-clause-heads
returns-clause-heads c = λ head atoms comparisons arrivals found same. bag_trans
    (same_heads head found (solutions_of atoms comparisons arrivals) same)
    (bag_from_same (sym (heads_solutions head atoms comparisons arrivals)))

pub returns-clause-answer : goal.returns-clause-answer
returns-clause-answer c = λ head atoms comparisons arrivals found rows same sorted. same_order found (heads head atoms comparisons arrivals) rows same sorted
