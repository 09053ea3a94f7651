use Rattle.std.proofs.Common.{◌++◌, [], ◌∷◌, map, refl, sym, ap, ap₂, subst, ◌∙◌, arith}
use Rattle.row_pages.proofs.Growing.{on_any_error}
use Rattle.bucket_store.specs.Stored.{AreStored, held_at}
use Rattle.bucket_store.specs.declared.bucket.Stored.{Stored}
use Rattle.bucket_store.proofs.Storing.{rows_more, rows_same, stored_grown, stored_more, stored_alike}
use Rattle.bucket_store.proofs.bucket.Bucket.push.Goals as goal

-- ---- no room for an entry

pub invariant_of-self : goal.invariant_of-self
invariant_of-self c = stored_alike c.self.inside.pages c.self.inside.entries.items c.reserve.new.self.items c.self.inside.chains c.self.inside.chains c.self.inside.weight c.in_err-reserve.ensures.items refl c.self.invariant

pub returns-in_err-reserve-clause-err : goal.returns-in_err-reserve-clause-err
returns-in_err-reserve-clause-err c = on_any_error c.from_residual.result (ap (map (held_at c.self.inside.pages)) c.in_err-reserve.ensures.items ∙ c.self.view_is)

-- ---- no room in the chains

pub invariant_of-self-in_err-reserve-2 : goal.invariant_of-self-in_err-reserve-2
invariant_of-self-in_err-reserve-2 c = stored_alike c.self.inside.pages c.self.inside.entries.items c.reserve.new.self.items c.self.inside.chains c.reserve-2.new.self c.self.inside.weight c.in_ok-reserve.ensures.items c.reserve-2.ensures c.self.invariant

pub returns-in_err-reserve-2-clause-err : goal.returns-in_err-reserve-2-clause-err
returns-in_err-reserve-2-clause-err c = on_any_error c.from_residual-in_err-reserve-2.result (ap (map (held_at c.self.inside.pages)) c.in_ok-reserve.ensures.items ∙ c.self.view_is)

-- ---- no room for the bytes

pub invariant_of-self-in_err-spot : goal.invariant_of-self-in_err-spot
invariant_of-self-in_err-spot c = stored_alike c.put_row.new.self c.self.inside.entries.items c.reserve.new.self.items c.self.inside.chains c.reserve-2.new.self c.self.inside.weight c.in_ok-reserve.ensures.items c.reserve-2.ensures
    (stored_grown c.self.inside.pages c.put_row.new.self c.self.inside.entries.items c.self.inside.chains c.self.inside.weight c.put_row.ensures.grows c.self.invariant)

pub returns-in_err-spot-clause-err : goal.returns-in_err-spot-clause-err
returns-in_err-spot-clause-err c = on_any_error c.from_residual-in_err-spot.result (ap (map (held_at c.put_row.new.self)) c.in_ok-reserve.ensures.items
    ∙ rows_same c.self.inside.pages c.put_row.new.self c.self.inside.entries.items c.put_row.ensures.grows c.self.invariant.each ∙ c.self.view_is)

-- ---- the chains, for which there was room

pub invariant_of-self-in_err-push : goal.invariant_of-self-in_err-push
invariant_of-self-in_err-push c = stored_alike c.put_row.new.self c.self.inside.entries.items c.reserve.new.self.items c.self.inside.chains c.push.new.self c.self.inside.weight c.in_ok-reserve.ensures.items (c.in_err-push.ensures.err ∙ c.reserve-2.ensures)
    (stored_grown c.self.inside.pages c.put_row.new.self c.self.inside.entries.items c.self.inside.chains c.self.inside.weight c.put_row.ensures.grows c.self.invariant)

pub returns-in_err-push-clause-err : goal.returns-in_err-push-clause-err
returns-in_err-push-clause-err c = on_any_error c.from_residual-in_err-push.result (ap (map (held_at c.put_row.new.self)) c.in_ok-reserve.ensures.items
    ∙ rows_same c.self.inside.pages c.put_row.new.self c.self.inside.entries.items c.put_row.ensures.grows c.self.invariant.each ∙ c.self.view_is)

-- ---- the row is there

pub invariant_of-self-2 : goal.invariant_of-self-2
invariant_of-self-2 c = subst (λ entries. AreStored c.put_row.new.self entries c.push.new.self c.in-Some.weight) (sym (c.in-Ok-push.ensures.items ∙ ap (λ es. es ++ stored ∷ []) c.in_ok-reserve.ensures.items))
    (stored_more c.self.inside.pages c.put_row.new.self c.self.inside.entries.items c.self.inside.chains c.push.new.self c.self.inside.weight c.in-Some.weight stored c.args.key.now c.args.row.now
    c.put_row.ensures.grows c.self.invariant c.in_ok-spot.ensures.lies c.in_ok-spot.ensures.piece (grind (arith, c.in-Ok.ensures)) c.put_row.ensures.fits (c.in_ok-push.ensures.ok ∙ ap₂ (λ hs h. hs ++ h ∷ []) c.reserve-2.ensures c.requires) (grind (arith, c.in-Some.ensures, c.weight.ensures.weight)))
  where
    stored : Stored
    stored = record { number = c.args.number; spot = c.in_ok-spot.spot; key_length = c.in-Ok.key_length }

pub returns-clause-ok : goal.returns-clause-ok
returns-clause-ok c = ap (map (held_at c.put_row.new.self)) (c.in-Ok-push.ensures.items ∙ ap (λ es. es ++ stored ∷ []) c.in_ok-reserve.ensures.items)
    ∙ rows_more c.self.inside.pages c.put_row.new.self c.self.inside.entries.items stored c.args.key.now c.args.row.now c.put_row.ensures.grows c.self.invariant.each c.in_ok-spot.ensures.piece (grind (arith, c.in-Ok.ensures)) c.put_row.ensures.fits
    ∙ ap (λ rows. rows ++ record { key = c.args.key.now; row = c.args.row.now; number = c.args.number } ∷ []) c.self.view_is
  where
    stored : Stored
    stored = record { number = c.args.number; spot = c.in_ok-spot.spot; key_length = c.in-Ok.key_length }
