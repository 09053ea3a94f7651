use Rattle.std.proofs.lemmas.List.Elements.{recursion_from_All}
use Rattle.answer_theory.specs.Solutions.{combinations}
use Rattle.answer_theory.proofs.Solutions.{solutions_join}
use Rattle.answer_theory.proofs.tree_laws.joins_of_solutions.Goals as goal

pub returns : goal.returns
returns g c = λ joins s us vs tl tr w hl hr ls rs bl br. solutions_join joins s us vs tl tr w hl hr ls rs (recursion_from_All _ (combinations ls) bl) (recursion_from_All _ (combinations rs) br)
