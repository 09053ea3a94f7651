use Rattle.std.proofs.Common.{◌-◌}
use Rattle.spill_blocks.specs.Blocks.{OnlyReads}
use Rattle.frag_store.proofs.ScanLaws.{IsScanned}
use Rattle.frag_store.proofs.spool.Spool.scan.Given as goal

abbrev pub invariant-loop-position : goal.invariant-loop-position
invariant-loop-position g l = record {
  keeps : OnlyReads l.initial.self l.self;
  scanned : IsScanned l.initial.self l.from l.stop l.position l.entries;
}

abbrev pub decreases-loop-position : goal.decreases-loop-position
decreases-loop-position g l = l.stop - l.position
