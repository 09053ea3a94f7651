-- Chains gain a place.
use Rattle.std.proofs.Common.{◌≡◌, ◌<◌, ◌≤◌, ◌+◌, ◌*◌, ◌%◌, ◌++◌, ℕ, Bool, true, false, List, [], ◌∷◌, length, get_or, set, take, replicate, Option, Some, None, inl, inr, refl, sym, ap, ap₂, subst, ◌∙◌, arith}
use Rattle.std.proofs.lemmas.Bool.{cases_lt, cases_order, cases_eq, false≢true, eqb-true, eq-eqb}
use Rattle.std.proofs.lemmas.List.{get_or_default, get_or-map, get_or-replicate, length-replicate, length-take-le, take_more, get_or-set_same, get_or-set_other, get_or_append_left, get_or_push, length-map, length-set, length_push, map-append, map-set, set-get_or}
use Rattle.bucket_store.specs.Chained.{AreChained, IsLastPlace, Spans, hashes_of, in_slot}
use Rattle.bucket_store.specs.Places.{next_place}
use Rattle.bucket_store.specs.declared.chains.Chain.{Chain}
use Rattle.bucket_store.specs.declared.chains.Link.{Link}
use Rattle.bucket_store.proofs.Places.{more_fails, more_passes, more_some, next_past, none_next}

-- `AreChained`, with the number of slots and the hashes by name
record ChainedAt (count : ℕ) (hashes : List ℕ) (slots : List (Option Chain)) (links : List Link) : Type 0 where
  room : 2 * length links ≤ count
  spans : (slot : ℕ) → slot < count → Spans (get_or slots slot None) (in_slot count slot) hashes
  leads : (place : ℕ) (d : Link) → place < length links
      → (get_or links place d).next ≡ next_place (in_slot count ((get_or links place d).hash % count)) hashes (place + 1)

chained_at : (count : ℕ) (hashes : List ℕ) (slots : List (Option Chain)) (links : List Link) → count ≡ length slots → hashes ≡ hashes_of links → ChainedAt count hashes slots links → AreChained slots links
chained_at count hashes slots links c e h =
    let own : ChainedAt (length slots) (hashes_of links) slots links = subst (λ n. ChainedAt n (hashes_of links) slots links) c (subst (λ xs. ChainedAt count xs slots links) e h) in
    record { room = own.room; spans = own.spans; leads = own.leads }

last_new : (test : ℕ → Bool) (xs : List ℕ) (hash : ℕ) → test hash ≡ true → IsLastPlace test (xs ++ hash ∷ []) (length xs)
last_new test xs hash passes = record {
  inside = omega (arith, length_push xs hash);
  passes = subst (λ x. test x ≡ true) (sym (get_or_push xs hash 0 (length xs) refl)) passes;
  last = next_past test (xs ++ hash ∷ []) (length xs + 1) 0 (omega (arith, length_push xs hash));
}

-- another slot spans what it spanned
spans_other : (o : Option Chain) (test : ℕ → Bool) (xs : List ℕ) (hash : ℕ) → Spans o test xs → test hash ≡ false → Spans o test (xs ++ hash ∷ [])
spans_other None test xs hash h fails = more_fails test xs hash 0 h fails
spans_other (Some chain) test xs hash h fails = (
  more_some test xs hash 0 chain.first h.0,
  record {
    inside = let l = h.1.inside in omega (arith, length_push xs hash);
    passes = subst (λ x. test x ≡ true) (sym (get_or_append_left xs (hash ∷ []) 0 chain.last h.1.inside)) h.1.passes;
    last = more_fails test xs hash (chain.last + 1) h.1.last fails;
  },
)

-- a place that passes and isn't the last is followed by another one
not_last : (test : ℕ → Bool) (xs : List ℕ) (last place : ℕ) → IsLastPlace test xs last → place < length xs → test (get_or xs place 0) ≡ true → (place ≡ last → ⊥) → next_place test xs (place + 1) ≡ None → ⊥
not_last test xs last place h inside passes other none = elim (cases_order place last) [
  | inl same ↦ other same
  | inr (inl below) ↦ false≢true (sym (none_next test xs (place + 1) 0 none last (omega arith) h.inside) ∙ h.passes)
  | inr (inr above) ↦ false≢true (sym (none_next test xs (last + 1) 0 h.last place (omega arith) inside) ∙ passes)
]

-- a link that leads on leads on
leads_on : (o : Option ℕ) (test : ℕ → Bool) (xs : List ℕ) (hash from : ℕ) → o ≡ next_place test xs from → (test hash ≡ true → next_place test xs from ≡ None → ⊥) → o ≡ next_place test (xs ++ hash ∷ []) from
leads_on (Some place) test xs hash from e h = sym (more_some test xs hash from place (sym e))
leads_on None test xs hash from e h = elim (test hash) as (λ b. test hash ≡ b → None ≡ next_place test (xs ++ hash ∷ []) from) [
  | true ↦ λ t. absurd (h t (sym e))
  | false ↦ λ t. sym (more_fails test xs hash from (sym e) t)
] refl

pub same_slot : (count slot hash : ℕ) → in_slot count slot hash ≡ true → hash % count ≡ slot
same_slot count slot hash e = eqb-true (hash % count) slot e

other_slot : (count slot hash : ℕ) → (slot ≡ hash % count → ⊥) → in_slot count slot hash ≡ false
other_slot count slot hash other = elim (in_slot count slot hash) as (λ b. in_slot count slot hash ≡ b → b ≡ false) [
  | true ↦ λ t. absurd (other (sym (same_slot count slot hash t)))
  | false ↦ λ t. refl
] refl

own_slot : (count hash : ℕ) → in_slot count (hash % count) hash ≡ true
own_slot count hash = eq-eqb (hash % count) (hash % count) refl

pub hash_at : (links : List Link) (place : ℕ) (d : Link) → place < length links → get_or (hashes_of links) place 0 ≡ (get_or links place d).hash
hash_at links place d inside = get_or-map (λ l. l.hash) links place d 0 inside

last_of : (slots : List (Option Chain)) (links : List Link) (chain : Chain) (slot : ℕ) → AreChained slots links → slot < length slots → get_or slots slot None ≡ Some chain → IsLastPlace (in_slot (length slots) slot) (hashes_of links) chain.last
last_of slots links chain slot h inside there = let span : Spans (Some chain) (in_slot (length slots) slot) (hashes_of links) = subst (λ o. Spans o (in_slot (length slots) slot) (hashes_of links)) there (h.spans slot inside) in span.1

-- ---- the first place of a slot

pub chained_first : (slots : List (Option Chain)) (links : List Link) (chain : Chain) (link : Link) → AreChained slots links → 2 * (length links + 1) ≤ length slots
    → get_or slots (link.hash % length slots) None ≡ None → chain.first ≡ length links → chain.last ≡ length links → link.next ≡ None
    → AreChained (set slots (link.hash % length slots) (Some chain)) (links ++ link ∷ [])
chained_first slots links chain link h room empty first last ends =
    chained_at count (xs ++ link.hash ∷ []) (set slots slot (Some chain)) (links ++ link ∷ [])
    (sym (length-set slots slot (Some chain)))
    (sym (map-append (λ l. l.hash) links (link ∷ [])))
    (record {
      room = omega (arith, length_push links link);
      spans = spans;
      leads = leads;
    })
  where
    count : ℕ
    count = length slots

    slot : ℕ
    slot = link.hash % length slots

    xs : List ℕ
    xs = hashes_of links

    many : length xs ≡ length links
    many = length-map links (λ l. l.hash)

    none : next_place (in_slot count slot) xs 0 ≡ None
    none = subst (λ o. Spans o (in_slot count slot) xs) empty (h.spans slot (omega arith))

    spans : (t : ℕ) → t < count → Spans (get_or (set slots slot (Some chain)) t None) (in_slot count t) (xs ++ link.hash ∷ [])
    spans t inside = elim (cases_eq t slot) [
      | inl same ↦ subst (λ u. Spans (get_or (set slots slot (Some chain)) u None) (in_slot count u) (xs ++ link.hash ∷ [])) (sym same)
          (subst (λ o. Spans o (in_slot count slot) (xs ++ link.hash ∷ [])) (sym (get_or-set_same slots slot (Some chain) None (omega arith))) (
            more_passes (in_slot count slot) xs link.hash 0 none (omega arith) (own_slot count link.hash) ∙ ap Some (many ∙ sym first),
            subst (IsLastPlace (in_slot count slot) (xs ++ link.hash ∷ [])) (many ∙ sym last) (last_new (in_slot count slot) xs link.hash (own_slot count link.hash)),
          ))
      | inr other ↦ subst (λ o. Spans o (in_slot count t) (xs ++ link.hash ∷ [])) (sym (get_or-set_other slots slot t (Some chain) None other))
          (spans_other (get_or slots t None) (in_slot count t) xs link.hash (h.spans t inside) (other_slot count t link.hash other))
    ]

    Leads : Link → ℕ → Type 0
    Leads l place = l.next ≡ next_place (in_slot count (l.hash % count)) (xs ++ link.hash ∷ []) (place + 1)

    -- no place has the slot yet
    before : (place : ℕ) (d : Link) → place < length links → Leads (get_or links place d) place
    before place d inside = leads_on _ _ xs link.hash (place + 1) (h.leads place d inside) (λ t e. false≢true (
        sym (none_next (in_slot count slot) xs 0 0 none place (omega arith) (omega (arith, many)))
        ∙ eq-eqb (get_or xs place 0 % count) slot (ap (λ x. x % count) (hash_at links place d inside) ∙ sym (same_slot count _ link.hash t))))

    leads : (place : ℕ) (d : Link) → place < length (links ++ link ∷ []) → Leads (get_or (links ++ link ∷ []) place d) place
    leads place d inside = elim (cases_lt place (length links)) [
      | inl old ↦ subst (λ l. Leads l place) (sym (get_or_append_left links (link ∷ []) d place old)) (before place d old)
      | inr new ↦ subst (λ l. Leads l place) (sym (get_or_push links link d place (omega (arith, length_push links link))))
          (ends ∙ sym (next_past _ (xs ++ link.hash ∷ []) (place + 1) 0 (omega (arith, many, length_push xs link.hash))))
    ]

-- ---- one place more of a slot

pub chained_after : (slots : List (Option Chain)) (links : List Link) (old chain : Chain) (before link : Link) → AreChained slots links → 2 * (length links + 1) ≤ length slots
    → get_or slots (link.hash % length slots) None ≡ Some old → chain.first ≡ old.first → chain.last ≡ length links
    → before.hash ≡ (get_or links old.last before).hash → before.next ≡ Some (length links) → link.next ≡ None
    → AreChained (set slots (link.hash % length slots) (Some chain)) (set links old.last before ++ link ∷ [])
chained_after slots links old chain before link h room there first last kept joined ends =
    chained_at count (xs ++ link.hash ∷ []) (set slots slot (Some chain)) (written ++ link ∷ [])
    (sym (length-set slots slot (Some chain)))
    (sym (map-append (λ l. l.hash) written (link ∷ []) ∙ ap (λ ys. ys ++ link.hash ∷ []) same_hashes))
    (record {
      room = omega (arith, length_push written link, length-set links old.last before);
      spans = spans;
      leads = leads;
    })
  where
    count : ℕ
    count = length slots

    slot : ℕ
    slot = link.hash % length slots

    xs : List ℕ
    xs = hashes_of links

    written : List Link
    written = set links old.last before

    many : length xs ≡ length links
    many = length-map links (λ l. l.hash)

    span : Spans (Some old) (in_slot count slot) xs
    span = subst (λ o. Spans o (in_slot count slot) xs) there (h.spans slot (omega arith))

    last_inside : old.last < length links
    last_inside = let l = span.1.inside in omega (arith, many)

    same_hashes : hashes_of written ≡ xs
    same_hashes =
        map-set (λ l. l.hash) links old.last before
        ∙ ap (set xs old.last) (kept ∙ sym (hash_at links old.last before last_inside))
        ∙ set-get_or xs old.last 0

    spans : (t : ℕ) → t < count → Spans (get_or (set slots slot (Some chain)) t None) (in_slot count t) (xs ++ link.hash ∷ [])
    spans t inside = elim (cases_eq t slot) [
      | inl same ↦ subst (λ u. Spans (get_or (set slots slot (Some chain)) u None) (in_slot count u) (xs ++ link.hash ∷ [])) (sym same)
          (subst (λ o. Spans o (in_slot count slot) (xs ++ link.hash ∷ [])) (sym (get_or-set_same slots slot (Some chain) None (omega arith))) (
            more_some (in_slot count slot) xs link.hash 0 old.first span.0 ∙ ap Some (sym first),
            subst (IsLastPlace (in_slot count slot) (xs ++ link.hash ∷ [])) (many ∙ sym last) (last_new (in_slot count slot) xs link.hash (own_slot count link.hash)),
          ))
      | inr other ↦ subst (λ o. Spans o (in_slot count t) (xs ++ link.hash ∷ [])) (sym (get_or-set_other slots slot t (Some chain) None other))
          (spans_other (get_or slots t None) (in_slot count t) xs link.hash (h.spans t inside) (other_slot count t link.hash other))
    ]

    Leads : Link → ℕ → Type 0
    Leads l place = l.next ≡ next_place (in_slot count (l.hash % count)) (xs ++ link.hash ∷ []) (place + 1)

    -- the place that was the last of the slot leads to the new one
    at_last : Leads before old.last
    at_last = joined ∙ sym (subst (λ s. next_place (in_slot count s) (xs ++ link.hash ∷ []) (old.last + 1) ≡ Some (length links)) (sym of_slot)
        (more_passes (in_slot count slot) xs link.hash (old.last + 1) span.1.last (let l = span.1.inside in omega arith) (own_slot count link.hash) ∙ ap Some many))
      where
        of_slot : before.hash % count ≡ slot
        of_slot = ap (λ x. x % count) (kept ∙ sym (hash_at links old.last before last_inside)) ∙ same_slot count slot (get_or xs old.last 0) span.1.passes

    elsewhere : (place : ℕ) (d : Link) → place < length links → (place ≡ old.last → ⊥) → Leads (get_or links place d) place
    elsewhere place d inside other = leads_on _ _ xs link.hash (place + 1) (h.leads place d inside) (λ t e.
        let of_slot : (get_or links place d).hash % count ≡ slot = sym (same_slot count _ link.hash t) in
        not_last (in_slot count slot) xs old.last place span.1 (omega (arith, many))
        (eq-eqb (get_or xs place 0 % count) slot (ap (λ x. x % count) (hash_at links place d inside) ∙ of_slot)) other
        (subst (λ s. next_place (in_slot count s) xs (place + 1) ≡ None) of_slot e))

    earlier : (place : ℕ) (d : Link) → place < length links → Leads (get_or written place d) place
    earlier place d inside = elim (cases_eq place old.last) [
      | inl same ↦ subst (λ p. Leads (get_or written p d) p) (sym same) (subst (λ l. Leads l old.last) (sym (get_or-set_same links old.last before d last_inside)) at_last)
      | inr other ↦ subst (λ l. Leads l place) (sym (get_or-set_other links old.last place before d other)) (elsewhere place d inside other)
    ]

    leads : (place : ℕ) (d : Link) → place < length (written ++ link ∷ []) → Leads (get_or (written ++ link ∷ []) place d) place
    leads place d inside = elim (cases_lt place (length links)) [
      | inl older ↦ subst (λ l. Leads l place) (sym (get_or_append_left written (link ∷ []) d place (omega (arith, length-set links old.last before)))) (earlier place d older)
      | inr new ↦ subst (λ l. Leads l place) (sym (get_or_push written link d place (omega (arith, length_push written link, length-set links old.last before))))
          (ends ∙ sym (next_past _ (xs ++ link.hash ∷ []) (place + 1) 0 (omega (arith, many, length_push xs link.hash, length-set links old.last before, length_push written link))))
    ]

-- ---- as `append` leaves them

pub appended_first : (slots more_slots : List (Option Chain)) (links more : List Link) (hash slot place : ℕ) → AreChained slots links → 2 * (length links + 1) ≤ length slots → slot ≡ hash % length slots → place ≡ length links
    → get_or slots slot None ≡ None → more_slots ≡ set slots slot (Some (record { first = place; last = place })) → more ≡ links ++ record { hash = hash; next = None } ∷ [] → AreChained more_slots more
appended_first slots more_slots links more hash slot place h room at is empty slots_are links_are =
    subst (λ ss. AreChained ss more) (sym slots_are) (subst (AreChained (set slots slot (Some (record { first = place; last = place })))) (sym links_are)
    (subst (λ s. AreChained (set slots s (Some (record { first = place; last = place }))) (links ++ record { hash = hash; next = None } ∷ [])) (sym at)
    (chained_first slots links (record { first = place; last = place }) (record { hash = hash; next = None }) h room (subst (λ s. get_or slots s None ≡ None) at empty) is is refl)))

pub appended_after : (slots more_slots : List (Option Chain)) (links more : List Link) (hash slot place : ℕ) (old : Chain) (before : Link) → AreChained slots links → 2 * (length links + 1) ≤ length slots → slot ≡ hash % length slots → place ≡ length links
    → get_or slots slot None ≡ Some old → before ≡ get_or links old.last before
    → more_slots ≡ set slots slot (Some (record { first = old.first; last = place })) → more ≡ set links old.last (record { hash = before.hash; next = Some place }) ++ record { hash = hash; next = None } ∷ []
    → AreChained more_slots more
appended_after slots more_slots links more hash slot place old before h room at is there read slots_are links_are =
    subst (λ ss. AreChained ss more) (sym slots_are) (subst (AreChained (set slots slot (Some (record { first = old.first; last = place })))) (sym links_are)
    (subst (λ s. AreChained (set slots s (Some (record { first = old.first; last = place }))) (set links old.last written ++ record { hash = hash; next = None } ∷ [])) (sym at)
    (chained_after slots links old (record { first = old.first; last = place }) written (record { hash = hash; next = None }) h room (subst (λ s. get_or slots s None ≡ Some old) at there) refl is kept (ap Some is) refl)))
  where
    written : Link
    written = record { hash = before.hash; next = Some place }

    inside : old.last < length links
    inside = let l = (last_of slots links old slot h (omega (arith, at, room)) there).inside in omega (arith, length-map links (λ l. l.hash))

    kept : before.hash ≡ (get_or links old.last written).hash
    kept = ap (λ (l : Link). l.hash) (read ∙ get_or_default links old.last before written inside)

pub last_inside : (slots : List (Option Chain)) (links : List Link) (chain : Chain) (slot : ℕ) → AreChained slots links → slot < length slots → get_or slots slot None ≡ Some chain → chain.last < length links
last_inside slots links chain slot h inside there = let l = (last_of slots links chain slot h inside there).inside in omega (arith, length-map links (λ l. l.hash))

pub appended_hashes : (links more : List Link) (hash last : ℕ) (before written : Link) → last < length links → before ≡ get_or links last before → written.hash ≡ before.hash → more ≡ set links last written ++ record { hash = hash; next = None } ∷ []
    → hashes_of more ≡ hashes_of links ++ hash ∷ []
appended_hashes links more hash last before written inside read same is =
    ap hashes_of is ∙ map-append (λ l. l.hash) (set links last written) (record { hash = hash; next = None } ∷ [])
    ∙ ap (λ xs. xs ++ hash ∷ []) (map-set (λ l. l.hash) links last written
    ∙ ap (set (hashes_of links) last) (same ∙ ap (λ (l : Link). l.hash) read ∙ sym (hash_at links last before inside))
    ∙ set-get_or (hashes_of links) last 0)

-- ---- no link yet

pub chained_none : (slots : List (Option Chain)) (links : List Link) (count : ℕ) → slots ≡ replicate count None → links ≡ [] → AreChained slots links
chained_none slots links count slots_are links_are = subst (λ ss. AreChained ss links) (sym slots_are) (subst (AreChained (replicate count None)) (sym links_are) (record {
  room = omega arith;
  spans = λ slot l. subst (λ o. Spans o (in_slot (length (replicate {A = Option Chain} count None)) slot) []) (sym (get_or-replicate count slot None None (omega (arith, l, length-replicate {A = Option Chain} count None)))) refl;
  leads = λ place d l. absurd (omega arith);
}))

pub many_hashed : (links items : List Link) (i : ℕ) → hashes_of links ≡ take i (hashes_of items) → i ≤ length items → length links ≡ i
many_hashed links items i e l = omega (arith, l, length-map links (λ (x : Link). x.hash), length-map items (λ (x : Link). x.hash), ap length e, length-take-le i (hashes_of items) (omega (arith, l, length-map items (λ (x : Link). x.hash))))

pub hashed_more : (links more items : List Link) (i : ℕ) (d : Link) → hashes_of links ≡ take i (hashes_of items) → i < length items → hashes_of more ≡ hashes_of links ++ (get_or items i d).hash ∷ []
    → hashes_of more ≡ take (i + 1) (hashes_of items)
hashed_more links more items i d e inside is =
    is ∙ ap₂ (λ xs x. xs ++ x ∷ []) e (sym (hash_at items i d inside)) ∙ sym (take_more (hashes_of items) i 0 (omega (arith, inside, length-map items (λ (x : Link). x.hash))))
