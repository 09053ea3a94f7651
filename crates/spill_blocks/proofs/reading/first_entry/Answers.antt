use Rattle.spill_blocks.proofs.ReadLaws.{begins_with}
use Rattle.spill_blocks.proofs.reading.first_entry.Goals as goal

pub returns-clause-begins : goal.returns-clause-begins
returns-clause-begins c = begins_with (λ bytes. bytes.now) c.args.form c.args.width c.args.bytes.now c.see_entry.result c.type_inv.bytes c.see_entry.ensures
