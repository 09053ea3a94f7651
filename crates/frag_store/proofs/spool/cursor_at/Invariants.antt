use Rattle.std.proofs.Common.{◌-◌, ◌≤◌, length}
use Rattle.frag_store.specs.Spools.{IsCursor}
use Rattle.frag_store.proofs.spool.cursor_at.Given as goal

abbrev pub invariant-loop-block : goal.invariant-loop-block
invariant-loop-block g l = record {
  cursor : IsCursor l.file.shapes l.at;
  low : l.at.before ≤ l.position;
}

abbrev pub decreases-loop-block : goal.decreases-loop-block
decreases-loop-block g l = length l.file.shapes - l.at.block
