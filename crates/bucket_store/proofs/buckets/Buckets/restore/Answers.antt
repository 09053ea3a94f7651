use Rattle.std.proofs.Common.{◌≡◌, ◌<◌, length, sym, subst, ◌∙◌}
use Rattle.bucket_store.proofs.Keeping.{kept_with}
use Rattle.bucket_store.specs.Stored.{AreKept}
use Rattle.std.proofs.Common.{[], set, ◌+◌, ◌≤◌}
use Rattle.std.specs.List.{sum}
use Rattle.bucket_store.specs.Held.{BelongTo, greatest_total, rows_in, rows_weight, weights_of}
use Rattle.bucket_store.proofs.buckets.Buckets.restore.Goals as goal

pub invariant_of-self : goal.invariant_of-self
invariant_of-self c = subst (λ w. AreKept (set c.self.inside.buckets.items c.args.bucket c.args.rows) (set c.self.inside.weights.items c.args.bucket c.weight.result) (c.self.inside.total + w)) (c.weight.ensures ∙ sym c.weight-2.ensures)
    (kept_with c.self.inside.buckets.items c.self.inside.weights.items c.self.inside.total c.args.bucket c.args.rows c.weight.result c.self.invariant
    (subst (λ bs. c.args.bucket < length bs) (sym c.self.view_is) c.requires.inside)
    (subst (λ bs. rows_in bs c.args.bucket ≡ []) (sym c.self.view_is) c.requires.empty)
    (subst (λ bs. BelongTo (length bs) c.args.bucket c.args.rows) (sym c.self.view_is) c.requires.placed)
    c.weight.ensures
    (subst (λ bs. sum (weights_of bs) + rows_weight c.args.rows ≤ greatest_total) (sym c.self.view_is) c.requires.light))
