use Rattle.std.proofs.Common.{refl, arith}
use Rattle.std.proofs.lemmas.Grind.{common_steps}
use Rattle.med_base.proofs.Parts.{take_filled}
use Rattle.med_base.proofs.memory.calm.spill.fill_from.Goals as goal

pub returns-then-text-at-clause-fills : goal.returns-then-text-at-clause-fills
returns-then-text-at-clause-fills c = record { count = grind (arith, common_steps); bytes = refl }

pub returns-clause-fills : goal.returns-clause-fills
returns-clause-fills c = record {
  count = grind (arith, common_steps);
  bytes = take_filled c.args.at c.min-count.result c.args.text.now c.copy_from_slice.new.self _
      (grind (arith, common_steps))
      (grind (arith, common_steps));
}
