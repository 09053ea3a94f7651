use Rattle.std.proofs.Common.{ap, subst, arith}
use Rattle.spill_blocks.specs.Blocks.{BlockState, TellsShapes}
use Rattle.frag_store.specs.Spools.{spooled_count}
use Rattle.frag_store.proofs.ScanLaws.{part_kept, reads_on, scanned_more, scans_rows}
use Rattle.frag_store.proofs.spool.Spool.scan.Goals as goal

pub loop-position-preserved : goal.loop-position-preserved
loop-position-preserved g c =
    let keeps = c.loop-position.invariant.keeps in
    let part = part_kept c.args.self.now c.loop-position.self c.loop-position.position c.min-stop.result c.loop-position.entries c.scan_block.new.entries keeps c.in_ok-scan_block.ensures.rows in
    rw c.len.ensures (record {
      keeps = reads_on c.args.self.now c.loop-position.self c.scan_block.new.self keeps c.scan_block.ensures.keeps;
      scanned = scanned_more c.args.self.now c.args.from c.min-stop.result c.loop-position.position c.loop-position.entries c.scan_block.new.entries c.loop-position-test.true c.loop-position.invariant.scanned part;
    })

pub returns-clause-rows : goal.returns-clause-rows
returns-clause-rows g c =
    let shapes : TellsShapes c.args.self.now = subst (λ (s : BlockState). TellsShapes s) c.self.view_is c.self.invariant.shapes_told in
    scans_rows c.args.self.now c.args.from c.min-stop.result c.args.room c.loop-position.position c.loop-position.entries c.into_rows.result shapes
    (omega (arith, c.min-stop.ensures, c.saturating_add.ensures, c.from.ensures, c.self.invariant.counted, ap spooled_count c.self.view_is))
    c.loop-position-test.false c.loop-position.invariant.scanned c.into_rows.ensures
