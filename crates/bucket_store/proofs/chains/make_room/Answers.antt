use Rattle.std.proofs.Common.{◌*◌, None, ap, ◌∙◌, arith}
use Rattle.std.proofs.lemmas.List.{length-map, take_all}
use Rattle.bucket_store.proofs.Chaining.{chained_none, hashed_more, many_hashed}
use Rattle.bucket_store.specs.Chained.{hashes_of}
use Rattle.bucket_store.specs.declared.chains.Link.{Link}
use Rattle.bucket_store.proofs.chains.make_room.Goals as goal

pub loop-link-init : goal.loop-link-init
loop-link-init c = (chained_none c.in_ok-more_slots.more_slots.items c.in_ok-more_links.more_links.items (2 * c.max-room.result) (c.in_ok-more_slots.ensures.items_if_clones_equal (λ y e. grind arith)) c.in_ok-more_links.ensures.items, ap hashes_of c.in_ok-more_links.ensures.items, grind (arith, c.in_ok-more_slots.ensures), c.in_ok-more_links.ensures.capacity)

pub append-requires-clause-chained : goal.append-requires-clause-chained
append-requires-clause-chained c = c.loop-link.invariant.0

pub append-requires-clause-slot : goal.append-requires-clause-slot
append-requires-clause-slot c = let many = many_hashed c.loop-link.more_links.items c.deref-link-items.result.now c.loop-link.link-index c.loop-link.invariant.1 (grind (arith, c.loop-link-test.true)) in
    grind (arith, many, c.loop-link.invariant.2, c.loop-link-test.true, c.deref-link-items.ensures, c.requires.chained.room, c.if-len.false, c.max-room.ensures, c.len.ensures, c.len-2.ensures, c.len-3.ensures)

pub append-requires-clause-place : goal.append-requires-clause-place
append-requires-clause-place c = let many = many_hashed c.loop-link.more_links.items c.deref-link-items.result.now c.loop-link.link-index c.loop-link.invariant.1 (grind (arith, c.loop-link-test.true)) in
    grind (arith, many, c.loop-link-test.true, c.deref-link-items.ensures, c.requires.few)

pub append-requires-clause-room : goal.append-requires-clause-room
append-requires-clause-room c = let many = many_hashed c.loop-link.more_links.items c.deref-link-items.result.now c.loop-link.link-index c.loop-link.invariant.1 (grind (arith, c.loop-link-test.true)) in
    grind (arith, many, c.loop-link.invariant.3, c.loop-link-test.true, c.deref-link-items.ensures, c.requires.chained.room, c.if-len.false, c.max-room.ensures, c.len.ensures, c.len-2.ensures, c.len-3.ensures)

pub loop-link-preserved : goal.loop-link-preserved
loop-link-preserved c = (c.append.ensures.chained, hashed_more c.loop-link.more_links.items c.append.new.links.items c.deref-link-items.result.now c.loop-link.link-index (record { hash = 0; next = None }) c.loop-link.invariant.1 c.loop-link-test.true c.append.ensures.hashes, grind (arith, c.append.ensures.slots, c.loop-link.invariant.2), grind (arith, c.append.ensures.capacity, c.loop-link.invariant.3))

pub returns-clause-chained : goal.returns-clause-chained
returns-clause-chained c = c.loop-link.invariant.0

pub returns-clause-hashes : goal.returns-clause-hashes
returns-clause-hashes c = c.loop-link.invariant.1 ∙ take_all c.loop-link.link-index (hashes_of c.deref-link-items.result.now) (omega (arith, c.loop-link-test.false, length-map c.deref-link-items.result.now (λ (l : Link). l.hash))) ∙ ap hashes_of c.deref-link-items.ensures.value

pub returns-clause-slot : goal.returns-clause-slot
returns-clause-slot c = let many = many_hashed c.loop-link.more_links.items c.deref-link-items.result.now c.loop-link.link-index c.loop-link.invariant.1 c.loop-link.auto.link-index-end in
    grind (arith, many, c.loop-link.invariant.2, c.loop-link-test.false, c.deref-link-items.ensures, c.requires.chained.room, c.if-len.false, c.max-room.ensures, c.len.ensures, c.len-2.ensures, c.len-3.ensures)

pub returns-clause-room : goal.returns-clause-room
returns-clause-room c = let many = many_hashed c.loop-link.more_links.items c.deref-link-items.result.now c.loop-link.link-index c.loop-link.invariant.1 c.loop-link.auto.link-index-end in
    grind (arith, many, c.loop-link.invariant.3, c.loop-link-test.false, c.deref-link-items.ensures, c.requires.chained.room, c.if-len.false, c.max-room.ensures, c.len.ensures, c.len-2.ensures, c.len-3.ensures)
