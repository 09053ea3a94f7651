use Rattle.std.proofs.Common.{◌≡◌, ◌∙◌, ℕ, ap, sym, drop, take, map, min, arith}
use Rattle.least_order.specs.Merging.{product_of_counts}
use Rattle.least_order.specs.Sets.{members_from}
use Rattle.least_order.specs.Sizes.{greatest_size, parts_of, product_of, size_of}
use Rattle.least_order.proofs.Members.{parts_more, members_without}
use Rattle.least_order.proofs.Merges.{whole, product-whole}
use Rattle.least_order.proofs.size.size.Goals as goal

pub loop-position-preserved-then-contains : goal.loop-position-preserved-then-contains
loop-position-preserved-then-contains c = record {
  parts = c.merge-len.ensures.parts
      ∙ parts_more c.args.items.now c.args.set c.loop-position.position (take c.loop-position.len c.loop-position.parts) (record { count = 0; vars = 0 })
      c.loop-position-test.true c.loop-position.auto.position (sym c.contains.ensures ∙ c.if-contains.true) c.loop-position.invariant.parts;
  few = omega arith;
}

pub loop-position-preserved : goal.loop-position-preserved
loop-position-preserved c = record {
  parts = c.loop-position.invariant.parts
      ∙ sym (ap (λ items. map whole (parts_of items)) (members_without c.args.items.now c.args.set c.loop-position.position (record { count = 0; vars = 0 })
      c.loop-position-test.true c.loop-position.auto.position (sym c.contains.ensures ∙ c.if-contains.false)));
  few = omega arith;
}

pub returns : goal.returns
unfolding size_of
returns c =
    let at_start : c.loop-position.position ≡ 0 = omega arith in
    c.capped_product.ensures
    ∙ ap (λ parts. min greatest_size (product_of_counts parts)) c.loop-position.invariant.parts
    ∙ ap (λ n. min greatest_size n) (product-whole (parts_of (members_from c.loop-position.position (drop c.loop-position.position c.args.items.now) c.args.set)))
    ∙ ap (λ (first : ℕ). min greatest_size (product_of (parts_of (members_from first (drop first c.args.items.now) c.args.set)))) at_start
