use Rattle.std.proofs.Common.{sym}
use Rattle.spill_blocks.proofs.EntryLaws.{rows_kept}
use Rattle.spill_blocks.proofs.entries.Entries.into_rows.Goals as goal

pub returns : goal.returns
returns c = rw (← c.self.view_is) (sym (rows_kept c.self.inside.numbers.items c.self.inside.rows c.self.invariant))
