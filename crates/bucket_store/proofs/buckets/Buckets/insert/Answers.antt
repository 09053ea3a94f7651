use Rattle.std.proofs.Common.{◌≡◌, ◌<◌, length, sym, ap, subst, ◌∙◌, arith}
use Rattle.std.proofs.lemmas.Nat.{mod_below}
use Rattle.tuple_core.specs.Hashing.{bucket_of, byte_hash}
use Rattle.bucket_store.specs.Addresses.{KeyAddress}
use Rattle.bucket_store.proofs.Keeping.{kept_more}
use Rattle.bucket_store.proofs.buckets.Buckets.insert.Goals as goal

pub invariant_of-self-2 : goal.invariant_of-self-2
invariant_of-self-2 c =
    let own : c.bucket-bucket.result ≡ bucket_of (length c.self.inside.buckets.items) c.args.key.now = c.bucket-bucket.ensures ∙ ap (λ (a : KeyAddress). a.bucket) c.requires ∙ ap (λ bs. bucket_of (length bs) c.args.key.now) (sym c.self.view_is) in
    kept_more c.self.inside.buckets.items c.self.inside.weights.items c.self.inside.total c.bucket-bucket.result c.index_mut.result.now c.push.new.self (record { key = c.args.key.now; row = c.args.row.now; number = c.args.number })
    c.index_mut-2.result.now c.weight-weight.result c.self.invariant
    (subst (λ n. n < length c.self.inside.buckets.items) (sym own) (mod_below (byte_hash c.args.key.now) (length c.self.inside.buckets.items) c.self.invariant.placed.some)) own
    c.index_mut.ensures.value c.in_ok-push.ensures.ok c.index_mut-2.ensures.value c.weight-weight.ensures.weight (grind (arith, c.if-weight-self.false, c.self.invariant.light))
