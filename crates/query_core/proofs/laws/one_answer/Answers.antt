use Rattle.query_core.specs.Answers.{heads}
use Rattle.query_core.proofs.Sorting.{sorted_rows, only_sorted_rows}
use Rattle.query_core.proofs.laws.one_answer.Goals as goal

pub returns-clause-is : goal.returns-clause-is
returns-clause-is c = λ head atoms comparisons arrivals. sorted_rows (heads head atoms comparisons arrivals)

pub returns-clause-only : goal.returns-clause-only
returns-clause-only c = λ head atoms comparisons arrivals rows. only_sorted_rows (heads head atoms comparisons arrivals) rows
