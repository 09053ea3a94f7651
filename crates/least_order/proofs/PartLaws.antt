-- The parts of items are their linked parts.
use Rattle.std.proofs.Common.{◌≡◌, ℕ, ◌+◌, ◌⊎◌, Bool, true, false, cond, not, eqb, List, [], ◌∷◌, ◌++◌, sym, ◌∙◌, ap, subst, refl, inl, inr, arith}
use Rattle.std.proofs.lemmas.Bool.{or_cases, or_parts, or_from, not-true, false≢true}
use Rattle.std.proofs.lemmas.List.Sums.{sum_by-cons, sum_by-append}
use Rattle.std.proofs.lemmas.Nat.{and_comm}
use Rattle.std.specs.List.{AllByRecursion, filter, flat_map, sum_by}
use Rattle.least_order.specs.declared.item.Item.{Item}
use Rattle.least_order.specs.Items.{shares, touches}
use Rattle.least_order.specs.Parts.{HasItem, IsAmong, IsChain, IsLinked, AreApart, AreAllApart}
use Rattle.least_order.specs.Sizes.{parts_of}

-- all items of some parts
abbrev items_in : List (List Item) → List Item
items_in parts = flat_map (λ part. part) parts

abbrev untouched : Item → List Item → Bool
untouched item part = not (touches item part)

shares_back : (item other : Item) → shares item other ≡ shares other item
shares_back item other = ap (λ (n : ℕ). not (eqb n 0)) (and_comm item.vars other.vars)

-- what parts weigh

weigh-push : (weight : Item → ℕ) (parts : List (List Item)) (part : List Item)
    → sum_by weight (items_in (parts ++ part ∷ [])) ≡ sum_by weight (items_in parts) + sum_by weight part
weigh-push weight [] part = sum_by-append weight part [] ∙ (let e : sum_by weight part + 0 ≡ 0 + sum_by weight part = omega arith in e)
weigh-push weight (first ∷ parts) part =
    let a : sum_by weight (first ++ items_in (parts ++ part ∷ [])) ≡ sum_by weight first + sum_by weight (items_in (parts ++ part ∷ [])) =
    sum_by-append weight first (items_in (parts ++ part ∷ [])) in
    let b : sum_by weight (first ++ items_in parts) ≡ sum_by weight first + sum_by weight (items_in parts) = sum_by-append weight first (items_in parts) in
    let c : sum_by weight (items_in (parts ++ part ∷ [])) ≡ sum_by weight (items_in parts) + sum_by weight part = weigh-push weight parts part in
    omega (arith, a, b, c)

weigh_more : (weight : Item → ℕ) (b : Bool) (first : List Item) (passed failed : List (List Item)) (total : ℕ)
    → sum_by weight (items_in failed) + sum_by weight (items_in passed) ≡ total
    → sum_by weight (items_in (cond (not b) (first ∷ failed) failed)) + sum_by weight (items_in (cond b (first ∷ passed) passed)) ≡ sum_by weight first + total
weigh_more weight true first passed failed total h =
    let a : sum_by weight (first ++ items_in passed) ≡ sum_by weight first + sum_by weight (items_in passed) = sum_by-append weight first (items_in passed) in
    omega (arith, a, h)
weigh_more weight false first passed failed total h =
    let a : sum_by weight (first ++ items_in failed) ≡ sum_by weight first + sum_by weight (items_in failed) = sum_by-append weight first (items_in failed) in
    omega (arith, a, h)

weigh-split : (weight : Item → ℕ) (item : Item) (parts : List (List Item))
    → sum_by weight (items_in (filter (untouched item) parts)) + sum_by weight (items_in (filter (touches item) parts)) ≡ sum_by weight (items_in parts)
weigh-split weight item [] = refl
weigh-split weight item (first ∷ parts) =
    weigh_more weight (touches item first) first (filter (touches item) parts) (filter (untouched item) parts) _ (weigh-split weight item parts)
    ∙ sym (sum_by-append weight first (items_in parts))

pub parts_weigh : (items : List Item) (weight : Item → ℕ) → sum_by weight (items_in (parts_of items)) ≡ sum_by weight items
parts_weigh [] weight = refl
parts_weigh (item ∷ items) weight =
    let parts : List (List Item) = parts_of items in
    let push : sum_by weight (items_in (parts_of (item ∷ items)))
    ≡ sum_by weight (items_in (filter (untouched item) parts)) + sum_by weight (item ∷ items_in (filter (touches item) parts)) =
    weigh-push weight (filter (untouched item) parts) (item ∷ items_in (filter (touches item) parts)) in
    let front : sum_by weight (item ∷ items_in (filter (touches item) parts)) ≡ weight item + sum_by weight (items_in (filter (touches item) parts)) =
    sum_by-cons weight item (items_in (filter (touches item) parts)) in
    let split : sum_by weight (items_in (filter (untouched item) parts)) + sum_by weight (items_in (filter (touches item) parts)) ≡ sum_by weight (items_in parts) =
    weigh-split weight item parts in
    let before : sum_by weight (items_in parts) ≡ sum_by weight items = parts_weigh items weight in
    let whole : sum_by weight (item ∷ items) ≡ weight item + sum_by weight items = sum_by-cons weight item items in
    omega (arith, push, front, split, before, whole)

-- what holds of each part

all_push : (P : List Item → Type 0) (parts : List (List Item)) (part : List Item) → AllByRecursion P parts → P part → AllByRecursion P (parts ++ part ∷ [])
all_push P [] part all here = (here, tt)
all_push P (first ∷ parts) part all here = (all.0, all_push P parts part all.1 here)

all_cond : (P : List Item → Type 0) (b : Bool) (first : List Item) (parts : List (List Item)) → P first → AllByRecursion P parts
    → AllByRecursion P (cond b (first ∷ parts) parts)
all_cond P true first parts here all = (here, all)
all_cond P false first parts here all = all

all_filter : (P : List Item → Type 0) (test : List Item → Bool) (parts : List (List Item)) → AllByRecursion P parts → AllByRecursion P (filter test parts)
all_filter P test [] all = tt
all_filter P test (first ∷ parts) all = all_cond P (test first) first (filter test parts) all.0 (all_filter P test parts all.1)

passes_cond : (test : List Item → Bool) (b : Bool) (first : List Item) (parts : List (List Item)) → test first ≡ b
    → AllByRecursion (λ part. test part ≡ true) parts → AllByRecursion (λ part. test part ≡ true) (cond b (first ∷ parts) parts)
passes_cond test true first parts is all = (is, all)
passes_cond test false first parts is all = all

passes : (test : List Item → Bool) (parts : List (List Item)) → AllByRecursion (λ part. test part ≡ true) (filter test parts)
passes test [] = tt
passes test (first ∷ parts) = passes_cond test (test first) first (filter test parts) refl (passes test parts)

pub parts_full : (items : List Item) → AllByRecursion HasItem (parts_of items)
parts_full [] = tt
parts_full (item ∷ items) =
    all_push HasItem (filter (untouched item) (parts_of items)) (item ∷ items_in (filter (touches item) (parts_of items)))
    (all_filter HasItem (untouched item) (parts_of items) (parts_full items)) tt

-- items of parts side by side

among_left : (item : Item) (part other : List Item) → IsAmong item part → IsAmong item (part ++ other)
among_left item [] other h = absurd h
among_left item (first ∷ part) other (inl e) = inl e
among_left item (first ∷ part) other (inr h) = inr (among_left item part other h)

among_right : (item : Item) (part other : List Item) → IsAmong item other → IsAmong item (part ++ other)
among_right item [] other h = h
among_right item (first ∷ part) other h = inr (among_right item part other h)

among_cases : (item : Item) (part other : List Item) → IsAmong item (part ++ other) → IsAmong item part ⊎ IsAmong item other
among_cases item [] other h = inr h
among_cases item (first ∷ part) other (inl e) = inl (inl e)
among_cases item (first ∷ part) other (inr h) = elim (among_cases item part other h) [ inl l ↦ inl (inr l) | inr r ↦ inr r ]

-- chains

chain_wider : (part wider : List Item) → ((item : Item) → IsAmong item part → IsAmong item wider)
    → (item : Item) (chain : List Item) (last : Item) → IsChain part item chain last → IsChain wider item chain last
chain_wider part wider within item [] last h = h
chain_wider part wider within item (next ∷ chain) last h = (within next h.0, h.1, chain_wider part wider within next chain last h.2)

chain-append : (part : List Item) (item : Item) (chain : List Item) (middle : Item) (chain' : List Item) (last : Item)
    → IsChain part item chain middle → IsChain part middle chain' last → IsChain part item (chain ++ chain') last
chain-append part item [] middle chain' last h h' = subst (λ (i : Item). IsChain part i chain' last) (sym h) h'
chain-append part item (next ∷ chain) middle chain' last h h' = (h.0, h.1, chain-append part next chain middle chain' last h.2 h')

chain_back : (part : List Item) (item : Item) (chain : List Item) (last : Item) → IsAmong item part → IsChain part item chain last
    → (back : List Item) × IsChain part last back item
chain_back part item [] last here h = ([], sym h)
chain_back part item (next ∷ chain) last here h =
    let rest : (back : List Item) × IsChain part last back next = chain_back part next chain last h.0 h.2 in
    (rest.0 ++ item ∷ [], chain-append part last rest.0 next (item ∷ []) item rest.1 (here, sym (shares_back item next) ∙ h.1, refl))

touched_one : (item : Item) (part : List Item) → touches item part ≡ true → (one : Item) × IsAmong one part × (shares item one ≡ true)
touched_one item [] h = absurd (false≢true h)
touched_one item (first ∷ part) h = elim (or_cases (shares item first) (touches item part) h) [
  | inl here ↦ (first, inl refl, here)
  | inr later ↦ (let found : (one : Item) × IsAmong one part × (shares item one ≡ true) = touched_one item part later in (found.0, inr found.1, found.2))
]

-- from each item of the parts that an item touches there is a chain to it
reaches : (item : Item) (parts : List (List Item)) (whole : List Item) → IsAmong item whole
    → AllByRecursion IsLinked parts → AllByRecursion (λ part. touches item part ≡ true) parts
    → ((one : Item) → IsAmong one (items_in parts) → IsAmong one whole)
    → (one : Item) → IsAmong one (items_in parts) → (chain : List Item) × IsChain whole one chain item
reaches item [] whole here linked touched within one h = absurd h
reaches item (part ∷ parts) whole here linked touched within one h = elim (among_cases one part (items_in parts) h) [
  | inl inside ↦
      (let met : (other : Item) × IsAmong other part × (shares item other ≡ true) = touched_one item part touched.0 in
      let to_met : (chain : List Item) × IsChain part one chain met.0 = linked.0.chain one met.0 inside met.1 in (
        to_met.0 ++ item ∷ [],
        chain-append whole one to_met.0 met.0 (item ∷ []) item
            (chain_wider part whole (λ i among. within i (among_left i part (items_in parts) among)) one to_met.0 met.0 to_met.1)
            (here, sym (shares_back item met.0) ∙ met.2, refl),
      ))
  | inr later ↦ reaches item parts whole here linked.1 touched.1 (λ i among. within i (among_right i part (items_in parts) among)) one later
]

joined_is_linked : (item : Item) (parts : List (List Item)) → AllByRecursion IsLinked parts → AllByRecursion (λ part. touches item part ≡ true) parts
    → IsLinked (item ∷ items_in parts)
joined_is_linked item parts linked touched =
    let to_item : (one : Item) → IsAmong one (item ∷ items_in parts) → (chain : List Item) × IsChain (item ∷ items_in parts) one chain item =
    (λ one among. elim among [
      | inl same ↦ ([], same)
      | inr later ↦ reaches item parts (item ∷ items_in parts) (inl refl) linked touched (λ i h. inr h) one later
    ]) in
    record {
      chain = λ one other among among'.
          let there = to_item one among in
          let from_other = to_item other among' in
          let back = chain_back (item ∷ items_in parts) other from_other.0 item among' from_other.1 in
          (there.0 ++ back.0, chain-append (item ∷ items_in parts) one there.0 item back.0 other there.1 back.1);
    }

pub parts_linked : (items : List Item) → AllByRecursion IsLinked (parts_of items)
parts_linked [] = tt
parts_linked (item ∷ items) =
    all_push IsLinked (filter (untouched item) (parts_of items)) (item ∷ items_in (filter (touches item) (parts_of items)))
    (all_filter IsLinked (untouched item) (parts_of items) (parts_linked items))
    (joined_is_linked item (filter (touches item) (parts_of items))
    (all_filter IsLinked (touches item) (parts_of items) (parts_linked items)) (passes (touches item) (parts_of items)))

-- parts that share nothing

untouched_one : (item : Item) (part : List Item) → touches item part ≡ false → (one : Item) → IsAmong one part → shares item one ≡ false
untouched_one item [] h one among = absurd among
untouched_one item (first ∷ part) h one (inl same) = subst (λ (i : Item). shares item i ≡ false) (sym same) (or_parts (shares item first) (touches item part) h).0
untouched_one item (first ∷ part) h one (inr later) = untouched_one item part (or_parts (shares item first) (touches item part) h).1 one later

untouched_by_all : (item : Item) (part : List Item) → ((one : Item) → IsAmong one part → shares item one ≡ false) → touches item part ≡ false
untouched_by_all item [] h = refl
untouched_by_all item (first ∷ part) h =
    or_from (shares item first) (touches item part) (h first (inl refl)) (untouched_by_all item part (λ one among. h one (inr among)))

apart_back : (part other : List Item) → AreApart part other → AreApart other part
apart_back part other apart = record {
  nothing_shared = λ item among. untouched_by_all item part (λ one among'.
      shares_back item one ∙ untouched_one one other (apart.nothing_shared one among') item among);
}

untouched_in : (item : Item) (parts : List (List Item)) → AllByRecursion (λ part. touches item part ≡ false) parts → touches item (items_in parts) ≡ false
untouched_in item [] all = refl
untouched_in item (part ∷ parts) all = touches-append item part (items_in parts) all.0 (untouched_in item parts all.1)
  where
    touches-append : (item : Item) (part other : List Item) → touches item part ≡ false → touches item other ≡ false → touches item (part ++ other) ≡ false
    touches-append item [] other h h' = h'
    touches-append item (first ∷ part) other h h' =
        let both = or_parts (shares item first) (touches item part) h in
        or_from (shares item first) (touches item (part ++ other)) both.0 (touches-append item part other both.1 h')

apart_from_each : (part : List Item) (parts : List (List Item)) → AllByRecursion (AreApart part) parts
    → (item : Item) → IsAmong item part → AllByRecursion (λ other. touches item other ≡ false) parts
apart_from_each part [] all item among = tt
apart_from_each part (other ∷ parts) all item among = (all.0.nothing_shared item among, apart_from_each part parts all.1 item among)

-- a part that an item doesn't touch is apart from the one that it makes of others
apart_from_joined : (item : Item) (part : List Item) (parts : List (List Item)) → untouched item part ≡ true → AllByRecursion (AreApart part) parts
    → AreApart part (item ∷ items_in parts)
apart_from_joined item part parts free all = record {
  nothing_shared = λ one among. or_from (shares one item) (touches one (items_in parts))
      (shares_back one item ∙ untouched_one item part (not-true (touches item part) free) one among)
      (untouched_in one parts (apart_from_each part parts all one among));
}

apart_cond : (b : Bool) (part : List Item) (parts : List (List Item)) → AllByRecursion (AreApart part) parts → AreAllApart parts → AreAllApart (cond b (part ∷ parts) parts)
apart_cond true part parts all rest = (all, rest)
apart_cond false part parts all rest = rest

apart_filter : (test : List Item → Bool) (parts : List (List Item)) → AreAllApart parts → AreAllApart (filter test parts)
apart_filter test [] all = tt
apart_filter test (part ∷ parts) all =
    apart_cond (test part) part (filter test parts) (all_filter (AreApart part) test parts all.0) (apart_filter test parts all.1)

apart_push : (parts : List (List Item)) (part : List Item) → AreAllApart parts → AllByRecursion (λ other. AreApart other part) parts → AreAllApart (parts ++ part ∷ [])
apart_push [] part all each = (tt, tt)
apart_push (first ∷ parts) part all each = (all_push (AreApart first) parts part all.0 each.0, apart_push parts part all.1 each.1)

-- the parts on the two sides of a test are apart
abbrev AreAcross : List (List Item) → List (List Item) → Type 0
AreAcross parts others = AllByRecursion (λ part. AllByRecursion (AreApart part) others) parts

across_more : (part : List Item) (parts others : List (List Item)) → AllByRecursion (λ other. AreApart other part) parts → AreAcross parts others
    → AreAcross parts (part ∷ others)
across_more part [] others each all = tt
across_more part (first ∷ parts) others each all = ((each.0, all.0), across_more part parts others each.1 all.1)

backwards : (part : List Item) (parts : List (List Item)) → AllByRecursion (AreApart part) parts → AllByRecursion (λ other. AreApart other part) parts
backwards part [] all = tt
backwards part (other ∷ parts) all = (apart_back part other all.0, backwards part parts all.1)

across_cond : (b : Bool) (part : List Item) (free touched : List (List Item)) → AllByRecursion (AreApart part) free → AllByRecursion (AreApart part) touched
    → AreAcross free touched → AreAcross (cond (not b) (part ∷ free) free) (cond b (part ∷ touched) touched)
across_cond true part free touched from_free from_touched all = across_more part free touched (backwards part free from_free) all
across_cond false part free touched from_free from_touched all = (from_touched, all)

across : (item : Item) (parts : List (List Item)) → AreAllApart parts → AreAcross (filter (untouched item) parts) (filter (touches item) parts)
across item [] all = tt
across item (part ∷ parts) all =
    across_cond (touches item part) part (filter (untouched item) parts) (filter (touches item) parts)
    (all_filter (AreApart part) (untouched item) parts all.0) (all_filter (AreApart part) (touches item) parts all.0) (across item parts all.1)

each_from_joined : (item : Item) (free touched : List (List Item)) → AllByRecursion (λ part. untouched item part ≡ true) free → AreAcross free touched
    → AllByRecursion (λ part. AreApart part (item ∷ items_in touched)) free
each_from_joined item [] touched pass all = tt
each_from_joined item (part ∷ free) touched pass all = (apart_from_joined item part touched pass.0 all.0, each_from_joined item free touched pass.1 all.1)

pub parts_apart : (items : List Item) → AreAllApart (parts_of items)
parts_apart [] = tt
parts_apart (item ∷ items) =
    apart_push (filter (untouched item) (parts_of items)) (item ∷ items_in (filter (touches item) (parts_of items)))
    (apart_filter (untouched item) (parts_of items) (parts_apart items))
    (each_from_joined item (filter (untouched item) (parts_of items)) (filter (touches item) (parts_of items))
    (passes (untouched item) (parts_of items)) (across item (parts_of items) (parts_apart items)))
