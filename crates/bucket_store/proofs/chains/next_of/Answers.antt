use Rattle.std.proofs.Common.{◌<◌, None, length, get_or, inl, inr, subst, sym, arith}
use Rattle.bucket_store.specs.Chained.{IsOnWay, hashes_of}
use Rattle.bucket_store.proofs.Walking.{walk_ends, walk_finds, walk_inside, walk_left, walk_on, walk_smaller}
use Rattle.bucket_store.proofs.chains.next_of.Goals as goal
use Rattle.bucket_store.proofs.chains.next_of.Goals.{else-link-hash-via-then-link-hash+else-from-place, else-link-hash-via-else-link-hash}

pub loop-next-init : goal.loop-next-init
loop-next-init c = c.first_on_way-next.ensures

pub bounds-links-place : goal.bounds-links-place
bounds-links-place c = walk_inside c.args.slots.now c.args.links.now c.args.hash c.args.from c.in-Some.place (subst (IsOnWay (length c.args.slots.now) (hashes_of c.args.links.now) c.args.hash c.args.from) c.in-Some.is c.loop-next.invariant)

pub returns-then-from-place : goal.returns-then-from-place
returns-then-from-place c = walk_finds c.args.slots.now c.args.links.now c.args.hash c.args.from c.in-Some.place (record { hash = 0; next = None })
    (subst (IsOnWay (length c.args.slots.now) (hashes_of c.args.links.now) c.args.hash c.args.from) c.in-Some.is c.loop-next.invariant) c.if-from-place.true c.if-link-hash.true

pub loop-next-smaller : goal.loop-next-smaller
loop-next-smaller c = subst (λ o. walk_left (length c.args.links.now) (get_or c.args.links.now c.in-Some.place (record { hash = 0; next = None })).next < walk_left (length c.args.links.now) o) (sym c.in-Some.is)
    (walk_smaller c.args.slots.now c.args.links.now c.args.hash c.args.from c.in-Some.place (record { hash = 0; next = None }) c.requires
    (subst (IsOnWay (length c.args.slots.now) (hashes_of c.args.links.now) c.args.hash c.args.from) c.in-Some.is c.loop-next.invariant))

pub loop-next-preserved : goal.loop-next-preserved
loop-next-preserved c = walk_on c.args.slots.now c.args.links.now c.args.hash c.args.from c.in-Some.place (record { hash = 0; next = None }) c.requires
    (subst (IsOnWay (length c.args.slots.now) (hashes_of c.args.links.now) c.args.hash c.args.from) c.in-Some.is c.loop-next.invariant)
    (elim c.else-link-hash.branch [
      | else-link-hash-via-then-link-hash+else-from-place w ↦ inl (grind (arith, w.if-from-place))
      | else-link-hash-via-else-link-hash w ↦ inr (grind (arith, w.if-link-hash))
    ])

pub returns : goal.returns
returns c = walk_ends c.args.slots.now c.args.links.now c.args.hash c.args.from (subst (IsOnWay (length c.args.slots.now) (hashes_of c.args.links.now) c.args.hash c.args.from) c.in_default.is c.loop-next.invariant)
