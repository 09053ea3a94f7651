use Rattle.std.proofs.lemmas.List.{take-append-drop}
use Rattle.med_base.proofs.memory.calm.source.CalmSourceSource.pull.Goals as goal

pub returns-clause-prefix : goal.returns-clause-prefix
returns-clause-prefix c = λ _. (_, take-append-drop _ _)
