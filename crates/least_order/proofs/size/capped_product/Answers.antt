use Rattle.std.proofs.Common.{◌∙◌, ◌+◌, ◌*◌, ap, min, drop, arith}
use Rattle.least_order.specs.Merging.{product_of_counts}
use Rattle.least_order.specs.Sizes.{greatest_size}
use Rattle.least_order.proofs.Members.{product_more}
use Rattle.least_order.proofs.size.capped_product.Goals as goal

pub loop-part-preserved : goal.loop-part-preserved
loop-part-preserved c = record {
  product =
      ap (λ n. min greatest_size (n * product_of_counts (drop (c.loop-part.part-index + 1) c.args.parts.now)))
      (c.min-product.ensures ∙ ap (λ n. min greatest_size (c.loop-part.product * n)) c.from.ensures)
      ∙ product_more c.args.parts.now c.loop-part.part-index c.loop-part.product (record { count = 0; vars = 0 }) c.loop-part-test.true
      ∙ c.loop-part.invariant.product;
  capped = omega arith;
}
