use Rattle.spill_blocks.proofs.EntryLaws.{wide_spooled}
use Rattle.spill_blocks.proofs.GiveLaws.{form_spooled}
use Rattle.spill_blocks.proofs.block_file.BlockFile.put_spooled.Goals as goal

pub put-requires-clause-wide : goal.put-requires-clause-wide
put-requires-clause-wide g c = (c.requires.wide.0, wide_spooled c.requires.wide.0 c.args.rows.now c.requires.wide.1)

pub put-requires-clause-formed : goal.put-requires-clause-formed
put-requires-clause-formed g c = form_spooled c.args.self.now.form c.args.rows.now
