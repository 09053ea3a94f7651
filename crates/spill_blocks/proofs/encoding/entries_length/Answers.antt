use Rattle.std.proofs.Common.{ap, length, take, arith, length-append}
use Rattle.spill_blocks.specs.Blocks.{entries_encoding, entry_encoding}
use Rattle.spill_blocks.specs.Listings.{listed}
use Rattle.spill_blocks.specs.Reading.{FitsKept}
use Rattle.spill_blocks.proofs.ListLaws.{all_more, encoding_more}
use Rattle.spill_blocks.proofs.encoding.entries_length.Goals as goal

pub loop-index-preserved : goal.loop-index-preserved
loop-index-preserved c =
    let xs = listed c.args.listing in
    let i = c.loop-index.index in
    let more = ap length (encoding_more c.args.form xs i c.in-Some.kept c.in-Some.ensures) in
    let both = length-append (entries_encoding c.args.form (take i xs)) (entry_encoding c.args.form c.in-Some.kept) in
    record {
      long = omega (arith, more, both, c.loop-index.invariant.long, c.entry_length-length.ensures.value);
      bound = omega (arith, c.loop-index.invariant.bound, c.entry_length-length.ensures.bound);
      fits = all_more FitsKept xs i c.in-Some.kept c.in-Some.ensures c.loop-index.invariant.fits c.entry_length-length.ensures.fits;
    }
