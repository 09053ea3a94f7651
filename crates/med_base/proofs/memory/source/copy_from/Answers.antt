use Rattle.std.proofs.Common.{arith}
use Rattle.std.proofs.lemmas.Grind.{common_steps}
use Rattle.med_base.proofs.Parts.{take_copied}
use Rattle.med_base.proofs.memory.source.copy_from.Goals as goal

pub returns-clause-bytes : goal.returns-clause-bytes
returns-clause-bytes c =
    take_copied c.args.at c.min-count.result c.args.text.now c.copy_from_slice.new.self _
    (grind (arith, common_steps))
    (grind (arith, common_steps))
