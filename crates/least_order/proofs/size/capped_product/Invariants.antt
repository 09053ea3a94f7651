use Rattle.std.proofs.Common.{◌≡◌, ◌≤◌, ◌*◌, min, drop}
use Rattle.least_order.specs.Sizes.{greatest_size}
use Rattle.least_order.specs.Merging.{product_of_counts}
use Rattle.least_order.proofs.size.capped_product.Given as goal

-- what is left multiplies the product so far
abbrev pub invariant-loop-part : goal.invariant-loop-part
invariant-loop-part l = record {
  product : min greatest_size (l.product * product_of_counts (drop l.part-index l.parts)) ≡ min greatest_size (product_of_counts l.parts);
  capped : l.product ≤ greatest_size;
}
