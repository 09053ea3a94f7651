use Rattle.std.proofs.Common.{[], get_or, sym, subst, arith, below_more}
use Rattle.tuple_core.specs.Ranks.{FirstTextBegins}
use Rattle.row_pages.proofs.Indexed.{row_at_index, shared_cuts, shorter_begins, uncut}
use Rattle.row_pages.proofs.sorting.shared_length.Goals as goal

pub loop-index-preserved : goal.loop-index-preserved
loop-index-preserved c =
    let shared = c.shared_with_row-front.ensures in
    below_more _ _
    (λ k h. shorter_begins c.loop-index.front.now c.shared_with_row-front.result.now shared.shorter.0 (get_or c.args.rows.now k []) shared.shorter.1 (c.loop-index.invariant k h))
    (subst (FirstTextBegins c.shared_with_row-front.result.now) (sym (row_at_index c.args.rows.now c.loop-index.index c.in-Some.row c.in-Some.ensures)) shared.begins)

pub returns : goal.returns
returns c = shared_cuts c.loop-index.front.now c.args.rows.now (λ k h. c.loop-index.invariant k (omega arith))

pub returns-then-is_empty : goal.returns-then-is_empty
returns-then-is_empty c = uncut c.args.rows.now
