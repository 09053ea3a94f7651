use Rattle.std.proofs.Common.{◌≡◌, take, subst, arith}
use Rattle.row_pages.proofs.Indexed.{both_begin}
use Rattle.row_pages.proofs.sorting.shared_front.Goals as goal

pub returns-then-x-index-clause-second : goal.returns-then-x-index-clause-second
returns-then-x-index-clause-second c = both_begin c.loop-index.index c.args.x.now c.args.y.now c.split_at.result.0.now c.split_at.ensures.front c.loop-index.invariant

pub returns-clause-second : goal.returns-clause-second
returns-clause-second c =
    let e : c.loop-index.index ≡ c.min-shorter.result = omega arith in
    let same : take c.min-shorter.result c.args.x.now ≡ take c.min-shorter.result c.args.y.now = subst (λ n. take n c.args.x.now ≡ take n c.args.y.now) e c.loop-index.invariant in
    both_begin c.min-shorter.result c.args.x.now c.args.y.now c.split_at-2.result.0.now c.split_at-2.ensures.front same
