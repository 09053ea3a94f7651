use Rattle.std.proofs.Common.{sym, ◌∙◌, ◌≡◌, length, arith}
use Rattle.std.proofs.lemmas.Grind.{common_steps}
use Rattle.spill_blocks.proofs.EntryLaws.{length_kept}
use Rattle.spill_blocks.proofs.entries.Entries.len.Goals as goal

pub returns : goal.returns
returns c =
    let many : c.len.result ≡ length c.self.inside.numbers.items = grind (arith, common_steps) in
    rw (← c.self.view_is) (many ∙ sym (length_kept c.self.inside.numbers.items c.self.inside.rows c.self.invariant))
