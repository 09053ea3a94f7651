use Rattle.std.proofs.Common.{◌%◌, ◌++◌, [], ◌∷◌, map, Some, None, refl, sym, ap, ◌∙◌, arith}
use Rattle.std.proofs.lemmas.List.{get_or_default, map-append}
use Rattle.bucket_store.proofs.Chaining.{appended_after, appended_first, appended_hashes, last_inside}
use Rattle.bucket_store.proofs.chains.append.Goals as goal
use Rattle.bucket_store.proofs.chains.append.Goals.{in-Some, in-None}
use Rattle.bucket_store.specs.declared.chains.Link.{Link}

pub returns-clause-chained : goal.returns-clause-chained
returns-clause-chained c = elim c.match-index.branch [
  | in-Some w ↦ appended_after c.args.slots.now.items c.match-index.slots.items c.args.links.now.items c.push.new.self.items c.args.hash c.slot_of-slot.result c.len-place.result w.in-Some.chain w.index_mut.result.now
      c.requires.chained c.requires.slot (c.slot_of-slot.ensures.slot ∙ ap (λ n. c.args.hash % n) (grind (arith, c.len.ensures))) (grind (arith, c.len-place.ensures)) (get_or_default c.args.slots.now.items c.slot_of-slot.result None c.index.result.now (grind (arith, c.slot_of-slot.ensures.inside, c.len.ensures)) ∙ sym c.index.ensures ∙ w.in-Some.is) w.index_mut.ensures.value (ap (λ v. v.items) w.slots-is) (c.in-Ok.ensures.items ∙ ap (λ v. v.items ++ record { hash = c.args.hash; next = None } ∷ []) w.links-is)
  | in-None w ↦ appended_first c.args.slots.now.items c.match-index.slots.items c.args.links.now.items c.push.new.self.items c.args.hash c.slot_of-slot.result c.len-place.result
      c.requires.chained c.requires.slot (c.slot_of-slot.ensures.slot ∙ ap (λ n. c.args.hash % n) (grind (arith, c.len.ensures))) (grind (arith, c.len-place.ensures)) (get_or_default c.args.slots.now.items c.slot_of-slot.result None c.index.result.now (grind (arith, c.slot_of-slot.ensures.inside, c.len.ensures)) ∙ sym c.index.ensures ∙ w.in-None.is) (ap (λ v. v.items) w.slots-is) (c.in-Ok.ensures.items ∙ ap (λ v. v.items ++ record { hash = c.args.hash; next = None } ∷ []) w.links-is)
]

pub returns-clause-hashes : goal.returns-clause-hashes
returns-clause-hashes c = elim c.match-index.branch [
  | in-Some w ↦ appended_hashes c.args.links.now.items c.push.new.self.items c.args.hash w.in-Some.chain.last w.index_mut.result.now (record { hash = w.index_mut.result.now.hash; next = Some c.len-place.result })
      (last_inside c.args.slots.now.items c.args.links.now.items w.in-Some.chain c.slot_of-slot.result c.requires.chained (grind (arith, c.slot_of-slot.ensures.inside, c.len.ensures)) (get_or_default c.args.slots.now.items c.slot_of-slot.result None c.index.result.now (grind (arith, c.slot_of-slot.ensures.inside, c.len.ensures)) ∙ sym c.index.ensures ∙ w.in-Some.is)) w.index_mut.ensures.value refl
      (c.in-Ok.ensures.items ∙ ap (λ v. v.items ++ record { hash = c.args.hash; next = None } ∷ []) w.links-is)
  | in-None w ↦ ap (map (λ l. l.hash)) (c.in-Ok.ensures.items ∙ ap (λ v. v.items ++ record { hash = c.args.hash; next = None } ∷ []) w.links-is) ∙ map-append (λ (l : Link). l.hash) c.args.links.now.items (record { hash = c.args.hash; next = None } ∷ [])
]
