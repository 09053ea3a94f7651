use Rattle.spill_blocks.proofs.PlaceLaws.{reads_none}
use Rattle.spill_blocks.proofs.WindowLaws.{keeps_file}
use Rattle.std.proofs.Common.{arith}
use Rattle.spill_blocks.proofs.seeking.read_on.Goals as goal

pub loop-place-init : goal.loop-place-init
loop-place-init g c = record {
  keeps = keeps_file c.args.file.now;
  reads = reads_none c.args.wanted c.args.file.now c.args.place.now c.args.entries.now c.requires.low (omega arith) c.requires.inside;
}
