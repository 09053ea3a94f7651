use Rattle.std.proofs.Common.{arith}
use Rattle.spill_blocks.proofs.block_file.BlockFile.block.Goals as goal

pub overflow_cast-result : goal.overflow_cast-result
overflow_cast-result g c = omega (arith, c.self.invariant.table.numbered, c.if-index-len.true, c.len.ensures, c.self.inside.blocks.ok.0)
