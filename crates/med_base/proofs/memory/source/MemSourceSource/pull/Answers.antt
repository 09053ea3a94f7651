use Rattle.std.proofs.lemmas.List.{take-append-drop}
use Rattle.med_base.proofs.memory.source.MemSourceSource.pull.Goals as goal

pub returns-else-self-len-clause-prefix : goal.returns-else-self-len-clause-prefix
returns-else-self-len-clause-prefix c = λ _. (_, take-append-drop _ _)
