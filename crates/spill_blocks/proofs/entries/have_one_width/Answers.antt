use Rattle.spill_blocks.proofs.EntryLaws.{wide_rows, wide_spooled}
use Rattle.spill_blocks.proofs.entries.have_one_width.Goals as goal

pub returns : goal.returns
returns c = (
  λ t. let w = c.has_one_width.ensures.0 t in (w.0, wide_rows w.0 c.args.rows.now w.1),
  λ h. c.has_one_width.ensures.1 (h.0, wide_spooled h.0 c.args.rows.now h.1),
)
