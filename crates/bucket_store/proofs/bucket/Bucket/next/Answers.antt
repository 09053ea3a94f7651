use Rattle.std.proofs.Common.{map, refl, sym, ap, ◌∙◌, arith}
use Rattle.std.specs.Cmp.Lexicographic.{bytes_decides}
use Rattle.std.proofs.lemmas.Bool.{false≢true}
use Rattle.bucket_store.specs.Keys.{key_hash}
use Rattle.bucket_store.proofs.Probing.{probe_ends, probe_finds, probe_inside, probe_passes}
use Rattle.bucket_store.proofs.bucket.Bucket.next.Goals as goal

pub loop-place-init : goal.loop-place-init
loop-place-init c = refl

pub piece_at-requires : goal.piece_at-requires
piece_at-requires c = (probe_inside c.args.self.now c.self.inside.chains c.args.key.now c.args.hash (c.self.invariant.chained ∙ ap (map (λ h. key_hash h.key)) c.self.view_is) c.requires c.loop-place.from c.in-Some.place (sym c.in-Some.is ∙ c.next.ensures.next)).1

pub returns-then-eq-clause-next : goal.returns-then-eq-clause-next
returns-then-eq-clause-next c = probe_finds c.args.self.now c.self.inside.chains c.args.key.now c.args.hash (c.self.invariant.chained ∙ ap (map (λ h. key_hash h.key)) c.self.view_is) c.requires c.loop-place.from c.in-Some.place (sym c.in-Some.is ∙ c.next.ensures.next) (sym c.piece_at.ensures.key ∙ (bytes_decides c.piece_at.result.0.now c.args.key.now).0 (sym c.if-eq.ensures)) ∙ sym c.loop-place.invariant

pub loop-place-smaller : goal.loop-place-smaller
loop-place-smaller c = let i = probe_inside c.args.self.now c.self.inside.chains c.args.key.now c.args.hash (c.self.invariant.chained ∙ ap (map (λ h. key_hash h.key)) c.self.view_is) c.requires c.loop-place.from c.in-Some.place (sym c.in-Some.is ∙ c.next.ensures.next) in omega (arith, i.0, i.1)

pub loop-place-preserved : goal.loop-place-preserved
loop-place-preserved c = c.loop-place.invariant ∙ probe_passes c.args.self.now c.self.inside.chains c.args.key.now c.args.hash (c.self.invariant.chained ∙ ap (map (λ h. key_hash h.key)) c.self.view_is) c.requires c.loop-place.from c.in-Some.place (sym c.in-Some.is ∙ c.next.ensures.next) (λ e. false≢true (c.if-eq.ensures ∙ (bytes_decides c.piece_at.result.0.now c.args.key.now).1 (c.piece_at.ensures.key ∙ e)))

pub returns-clause-next : goal.returns-clause-next
returns-clause-next c = probe_ends c.args.self.now c.self.inside.chains c.args.key.now c.args.hash (c.self.invariant.chained ∙ ap (map (λ h. key_hash h.key)) c.self.view_is) c.requires c.loop-place.from (sym c.in_default.is ∙ c.next.ensures.next) ∙ sym c.loop-place.invariant
