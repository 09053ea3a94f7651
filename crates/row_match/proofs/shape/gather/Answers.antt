use Rattle.std.proofs.Common.{◌++◌, slice_get, refl, sym, ap, ap₂, ◌∙◌, append_assoc}
use Rattle.row_match.proofs.Gathering.{filter_map_more}
use Rattle.row_match.proofs.shape.gather.Goals as goal

pub loop-position-preserved : goal.loop-position-preserved
loop-position-preserved c =
    c.in_ok-push_copy.ensures
    ∙ ap₂ (λ l r. l ++ r) c.loop-position.invariant refl
    ∙ append_assoc c.args.into.now.items _ _
    ∙ ap (λ l. c.args.into.now.items ++ l) (sym (filter_map_more (slice_get c.args.row.now) c.args.positions.now c.loop-position.position-index _ c.loop-position-test.true))
