use Rattle.std.proofs.Common.{◌++◌, [], ◌∷◌, replicate, ap, ◌∙◌, arith}
use Rattle.std.proofs.lemmas.List.{replicate-append-replicate}
use Rattle.bucket_store.proofs.Keeping.{kept_none}
use Rattle.bucket_store.proofs.buckets.Buckets.new.Goals as goal

pub loop-init : goal.loop-init
loop-init c = c.in_ok-buckets.ensures.items

pub loop-preserved : goal.loop-preserved
loop-preserved c = c.in_ok-push.ensures.items ∙ ap (λ b. c.loop.buckets.items ++ b ∷ []) c.new.ensures ∙ ap (λ bs. bs ++ [] ∷ []) c.loop.invariant ∙ replicate-append-replicate c.loop.counter 1 []

pub invariant_of-result : goal.invariant_of-result
invariant_of-result c = kept_none c.loop.buckets.items c.in_ok-weights.weights.items c.args.count (c.loop.invariant ∙ ap (λ n. replicate n []) (grind (arith, c.loop-test.false, c.loop.auto.counter-end))) (c.in_ok-weights.ensures.items_if_clones_equal (λ y e. grind arith)) c.requires (grind (arith, c.ranges.count.fits))

pub returns : goal.returns
returns c = c.loop.invariant ∙ ap (λ n. replicate n []) (grind (arith, c.loop-test.false, c.loop.auto.counter-end))
