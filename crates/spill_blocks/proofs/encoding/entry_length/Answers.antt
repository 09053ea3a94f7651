use Rattle.std.proofs.Common.{ap, arith, length}
use Rattle.tuple_core.proofs.Weighing.{row_bounded, row_weighs}
use Rattle.spill_blocks.proofs.encoding.entry_length.Goals as goal

pub returns-in-Join-clause-bound : goal.returns-in-Join-clause-bound
returns-in-Join-clause-bound c =
    let encoded = ap length c.bytes-row.ensures.encoding in
    omega (arith, encoded, row_weighs c.args.kept.now.row, row_bounded c.args.kept.now.row c.bytes-row.ensures.fits)

pub returns-in-Join-clause-fits : goal.returns-in-Join-clause-fits
returns-in-Join-clause-fits c = record { a = c.are_small.ensures.a; d = c.are_small.ensures.d; row = c.bytes-row.ensures.fits }

pub returns-in-Spool-clause-bound : goal.returns-in-Spool-clause-bound
returns-in-Spool-clause-bound c =
    let encoded = ap length c.bytes-row.ensures.encoding in
    omega (arith, encoded, row_weighs c.args.kept.now.row, row_bounded c.args.kept.now.row c.bytes-row.ensures.fits)

pub returns-in-Spool-clause-fits : goal.returns-in-Spool-clause-fits
returns-in-Spool-clause-fits c = record { a = c.are_small.ensures.a; d = c.are_small.ensures.d; row = c.bytes-row.ensures.fits }
