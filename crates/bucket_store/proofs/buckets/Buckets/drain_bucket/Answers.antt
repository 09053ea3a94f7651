use Rattle.std.proofs.Common.{◌<◌, length, set, sym, ap, subst, ◌∙◌, arith}
use Rattle.std.specs.List.{sum}
use Rattle.bucket_store.proofs.Keeping.{drained_belong, drained_light, kept_without, read_rows}
use Rattle.bucket_store.proofs.buckets.Buckets.drain_bucket.Goals as goal

pub invariant_of-self : goal.invariant_of-self
invariant_of-self c = kept_without c.self.inside.buckets.items c.self.inside.weights.items c.self.inside.total c.args.bucket c.replace.new.dest c.index.result.now c.self.invariant (subst (λ bs. c.args.bucket < length bs) (sym c.self.view_is) c.requires) (c.replace.ensures.after ∙ c.new.ensures) c.index.ensures

pub returns-clause-placed : goal.returns-clause-placed
returns-clause-placed c =
    let inside = subst (λ bs. c.args.bucket < length bs) (sym c.self.view_is) c.requires in
    drained_belong c.self.inside.buckets.items (set c.self.inside.buckets.items c.args.bucket c.replace.new.dest) c.args.bucket c.replace.result c.self.invariant.placed inside
    (ap (set c.self.inside.buckets.items c.args.bucket) (c.replace.ensures.after ∙ c.new.ensures))
    (read_rows c.self.inside.buckets.items c.args.bucket c.replace.result c.index_mut-2.result.now inside c.replace.ensures.value c.index_mut-2.ensures.value)

pub returns-clause-light : goal.returns-clause-light
returns-clause-light c =
    let inside = subst (λ bs. c.args.bucket < length bs) (sym c.self.view_is) c.requires in
    drained_light c.self.inside.buckets.items (set c.self.inside.buckets.items c.args.bucket c.replace.new.dest) c.args.bucket c.replace.result
    (omega (arith, c.self.invariant.light, c.self.invariant.total_is, ap sum c.self.invariant.weighs)) inside
    (ap (set c.self.inside.buckets.items c.args.bucket) (c.replace.ensures.after ∙ c.new.ensures))
    (read_rows c.self.inside.buckets.items c.args.bucket c.replace.result c.index_mut-2.result.now inside c.replace.ensures.value c.index_mut-2.ensures.value)
