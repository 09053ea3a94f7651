use Rattle.std.proofs.Common.{ap, ◌∙◌}
use Rattle.std.proofs.Common.{map}
use Rattle.row_pages.specs.Lying.{piece_at}
use Rattle.row_pages.proofs.Growing.{all_kept, all_more, pieces_kept, pieces_more, on_any_error}
use Rattle.row_pages.proofs.pieces.Pieces.push_row.Goals as goal

pub invariant_of-self : goal.invariant_of-self
invariant_of-self c = all_kept _ _ _ c.put_row.ensures.grows c.self.invariant

pub returns-in_err-spot-clause-err : goal.returns-in_err-spot-clause-err
returns-in_err-spot-clause-err c = on_any_error _ (pieces_kept _ _ _ c.put_row.ensures.grows c.self.invariant ∙ c.self.view_is)

pub invariant_of-self-in_err-push : goal.invariant_of-self-in_err-push
invariant_of-self-in_err-push c = rw c.in_err-push.ensures.items (all_kept _ _ _ c.put_row.ensures.grows c.self.invariant)

pub returns-in_err-push-clause-err : goal.returns-in_err-push-clause-err
returns-in_err-push-clause-err c = on_any_error _ (ap (map (piece_at c.put_row.new.self)) c.in_err-push.ensures.items ∙ pieces_kept _ _ _ c.put_row.ensures.grows c.self.invariant ∙ c.self.view_is)

pub invariant_of-self-2 : goal.invariant_of-self-2
invariant_of-self-2 c = all_more _ _ _ _ _ c.put_row.ensures.grows c.self.invariant c.in_ok-spot.ensures.lies c.in_ok-push.ensures.items

pub returns-clause-ok : goal.returns-clause-ok
returns-clause-ok c = rw (← c.self.view_is) (pieces_more _ _ _ _ _ _ c.put_row.ensures.grows c.self.invariant c.in_ok-spot.ensures.piece c.in_ok-push.ensures.items)
