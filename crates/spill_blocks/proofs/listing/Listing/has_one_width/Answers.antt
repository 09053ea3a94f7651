use Rattle.std.proofs.Common.{◌≡◌, length, rules, arith}
use Rattle.spill_blocks.specs.Listings.{listed}
use Rattle.spill_blocks.specs.declared.entries.Kept.{Kept}
use Rattle.spill_blocks.proofs.ListLaws.{all_more, all_taken}
use Rattle.spill_blocks.proofs.listing.Listing.has_one_width.Goals as goal

pub loop-index-preserved : goal.loop-index-preserved
loop-index-preserved c =
    let same : length c.in-Some.kept.row ≡ c.width-width.result = rw c.bytes.ensures.encoding at c.if-bytes-width.false in
    all_more (λ (kept : Kept). length kept.row ≡ c.width-width.result) (listed c.args.self) c.loop-index.index c.in-Some.kept c.in-Some.ensures c.loop-index.invariant same

pub returns : goal.returns
returns c = (
  λ _. (c.width-width.result, all_taken (λ (kept : Kept). length kept.row ≡ c.width-width.result) (listed c.args.self) c.loop-index.index (omega (arith, c.loop-index-test.false, c.len-index-end.ensures)) c.loop-index.invariant),
  λ _. search rules,
)
