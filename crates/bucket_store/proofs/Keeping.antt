-- Buckets gain a row, lose their rows, and get them back.
use Rattle.std.proofs.Common.{◌≡◌, ◌<◌, ◌≤◌, ◌+◌, ◌-◌, ◌++◌, ◌^◌, ℕ, zero, suc, List, [], ◌∷◌, length, get_or, set, replicate, inl, inr, refl, sym, ap, subst, ◌∙◌, arith}
use Rattle.std.specs.List.{sum}
use Rattle.std.proofs.lemmas.Bool.{cases_eq}
use Rattle.std.proofs.lemmas.List.{get_or_default, get_or-replicate, length-replicate, get_or-map, get_or-set_other, get_or-set_same, length-map, length-set, map-set}
use Rattle.std.proofs.lemmas.List.Elements.{All-push}
use Rattle.std.proofs.lemmas.List.Sums.{get_or-le-sum_by, sum_by-cons, sum_by-set, sum_by_push}
use Rattle.tuple_core.specs.Encoding.{row_weight}
use Rattle.tuple_core.specs.Hashing.{bucket_of}
use Rattle.bucket_store.specs.Held.{ArePlaced, BelongTo, Held, HeldList, greatest_total, rows_in, rows_weight, weights_of}
use Rattle.bucket_store.specs.Stored.{AreKept}

-- other rows in one bucket, of the same kind of keys
pub placed_set : (buckets : List HeldList) (bucket : ℕ) (rows : HeldList) → ArePlaced buckets → BelongTo (length buckets) bucket rows → ArePlaced (set buckets bucket rows)
placed_set buckets bucket rows h belong = record {
  some = let l = h.some in omega (arith, length-set buckets bucket rows);
  each = λ b inside. subst (λ n. BelongTo n b (rows_in (set buckets bucket rows) b)) (sym (length-set buckets bucket rows)) (go b (omega (arith, length-set buckets bucket rows)));
}
  where
    go : (b : ℕ) → b < length buckets → BelongTo (length buckets) b (rows_in (set buckets bucket rows) b)
    go b inside = elim (cases_eq b bucket) [
      | inl same ↦ subst (λ x. BelongTo (length buckets) x (rows_in (set buckets bucket rows) x)) (sym same)
          (subst (BelongTo (length buckets) bucket) (sym (get_or-set_same buckets bucket rows [] (omega arith))) belong)
      | inr other ↦ subst (BelongTo (length buckets) b) (sym (get_or-set_other buckets bucket b rows [] other)) (h.each b inside)
    ]

weights_set : (buckets : List HeldList) (bucket : ℕ) (rows : HeldList) (weights : List ℕ) → weights ≡ weights_of buckets → set weights bucket (rows_weight rows) ≡ weights_of (set buckets bucket rows)
weights_set buckets bucket rows weights h = ap (λ ws. set ws bucket (rows_weight rows)) h ∙ sym (map-set rows_weight buckets bucket rows)

weight_at : (buckets : List HeldList) (bucket : ℕ) (d : ℕ) → bucket < length buckets → get_or (weights_of buckets) bucket d ≡ rows_weight (rows_in buckets bucket)
weight_at buckets bucket d inside = get_or-map rows_weight buckets bucket [] d inside

-- what all rows weigh, when those of one bucket are other ones
sum_set : (buckets : List HeldList) (bucket : ℕ) (rows : HeldList) → bucket < length buckets → sum (weights_of (set buckets bucket rows)) + rows_weight (rows_in buckets bucket) ≡ sum (weights_of buckets) + rows_weight rows
sum_set buckets bucket rows inside =
    ap (λ ws. sum ws + rows_weight (rows_in buckets bucket)) (map-set rows_weight buckets bucket rows)
    ∙ ap (λ w. sum (set (weights_of buckets) bucket (rows_weight rows)) + w) (sym (weight_at buckets bucket 0 inside))
    ∙ sum_by-set (λ x. x) (weights_of buckets) bucket (rows_weight rows) 0 (omega (arith, length-map buckets rows_weight))

pub weight_bound : (buckets : List HeldList) (weights : List ℕ) (total bucket : ℕ) → AreKept buckets weights total → bucket < length buckets → rows_weight (rows_in buckets bucket) ≤ total
weight_bound buckets weights total bucket h inside =
    let least = get_or-le-sum_by (λ (x : ℕ). x) (weights_of buckets) bucket 0 (omega (arith, length-map buckets rows_weight)) in
    omega (arith, least, weight_at buckets bucket 0 inside, h.total_is, ap sum h.weighs)

-- the rows of one bucket are other ones
pub kept_set : (buckets : List HeldList) (weights : List ℕ) (total bucket : ℕ) (rows : HeldList) (after : ℕ) → AreKept buckets weights total → bucket < length buckets → BelongTo (length buckets) bucket rows
    → after + rows_weight (rows_in buckets bucket) ≡ total + rows_weight rows → after ≤ greatest_total
    → AreKept (set buckets bucket rows) (set weights bucket (rows_weight rows)) after
kept_set buckets weights total bucket rows after h inside belong sums light = record {
  placed = placed_set buckets bucket rows h.placed belong;
  few = let l = h.few in omega (arith, length-set buckets bucket rows);
  weighs = weights_set buckets bucket rows weights h.weighs;
  total_is = omega (arith, sums, h.total_is, ap sum (weights_set buckets bucket rows weights h.weighs), ap sum h.weighs, sum_set buckets bucket rows inside);
  light = light;
}

-- one row more in its key's bucket
pub belong_more : (count bucket : ℕ) (rows : HeldList) (held : Held) → BelongTo count bucket rows → bucket_of count held.key ≡ bucket → BelongTo count bucket (rows ++ held ∷ [])
belong_more count bucket rows held h e = All-push (λ x. bucket_of count x.key ≡ bucket) rows held h e

pub weight_more : (rows : HeldList) (held : Held) → rows_weight (rows ++ held ∷ []) ≡ rows_weight rows + row_weight held.row
weight_more rows held = sum_by_push (λ (x : Held). row_weight x.row) rows held

-- ---- as the calls leave them

-- a row more
pub kept_more : (buckets : List HeldList) (weights : List ℕ) (total bucket : ℕ) (rows after : HeldList) (held : Held) (before weight : ℕ) → AreKept buckets weights total → bucket < length buckets → bucket ≡ bucket_of (length buckets) held.key
    → rows ≡ get_or buckets bucket rows → after ≡ rows ++ held ∷ [] → before ≡ get_or weights bucket before → weight ≡ row_weight held.row → total + weight ≤ greatest_total
    → AreKept (set buckets bucket after) (set weights bucket (before + weight)) (total + weight)
kept_more buckets weights total bucket rows after held before weight h inside own read more was heavy light =
    subst (λ w. AreKept (set buckets bucket after) (set weights bucket w) (total + weight)) (sym weighs)
    (kept_set buckets weights total bucket after (total + weight) h inside
    (subst (BelongTo (length buckets) bucket) (sym (more ∙ ap (λ rs. rs ++ held ∷ []) rows_are)) (belong_more (length buckets) bucket (rows_in buckets bucket) held (h.placed.each bucket inside) (sym own)))
    (omega (arith, heavier, ap rows_weight rows_are)) light)
  where
    rows_are : rows ≡ rows_in buckets bucket
    rows_are = read ∙ get_or_default buckets bucket rows [] inside

    heavier : rows_weight after ≡ rows_weight rows + weight
    heavier = ap rows_weight more ∙ (weight_more rows held ∙ ap (λ w. rows_weight rows + w) (sym heavy))

    before_is : before ≡ rows_weight rows
    before_is = was ∙ (ap (λ ws. get_or ws bucket before) h.weighs ∙ (weight_at buckets bucket before inside ∙ ap rows_weight (sym rows_are)))

    weighs : before + weight ≡ rows_weight after
    weighs = omega (arith, before_is, heavier)

-- the rows of a bucket are handed on
pub kept_without : (buckets : List HeldList) (weights : List ℕ) (total bucket : ℕ) (after : HeldList) (weight : ℕ) → AreKept buckets weights total → bucket < length buckets → after ≡ [] → weight ≡ get_or weights bucket weight
    → AreKept (set buckets bucket after) (set weights bucket 0) (total - weight)
kept_without buckets weights total bucket after weight h inside empty was =
    subst (λ rows. AreKept (set buckets bucket rows) (set weights bucket 0) (total - weight)) (sym empty)
    (kept_set buckets weights total bucket [] (total - weight) h inside (λ k d l. absurd (omega arith)) (omega (arith, is, bound)) (let l = h.light in omega arith))
  where
    is : weight ≡ rows_weight (rows_in buckets bucket)
    is = was ∙ (ap (λ ws. get_or ws bucket weight) h.weighs ∙ weight_at buckets bucket weight inside)

    bound : rows_weight (rows_in buckets bucket) ≤ total
    bound = weight_bound buckets weights total bucket h inside

-- the rows of an empty bucket come back
pub kept_with : (buckets : List HeldList) (weights : List ℕ) (total bucket : ℕ) (rows : HeldList) (weight : ℕ) → AreKept buckets weights total → bucket < length buckets → rows_in buckets bucket ≡ [] → BelongTo (length buckets) bucket rows
    → weight ≡ rows_weight rows → sum (weights_of buckets) + rows_weight rows ≤ greatest_total → AreKept (set buckets bucket rows) (set weights bucket weight) (total + weight)
kept_with buckets weights total bucket rows weight h inside empty belong is light =
    subst (λ w. AreKept (set buckets bucket rows) (set weights bucket w) (total + w)) (sym is)
    (kept_set buckets weights total bucket rows (total + rows_weight rows) h inside belong (omega (arith, ap rows_weight empty)) (omega (arith, light, h.total_is, ap sum h.weighs)))

-- empty buckets
weightless : (count : ℕ) → weights_of (replicate count []) ≡ replicate count 0
weightless zero = refl
weightless (suc count) = ap (λ ws. 0 ∷ ws) (weightless count)

sum_none : (count : ℕ) → sum (replicate count 0) ≡ 0
sum_none zero = refl
sum_none (suc count) = omega (arith, sum_by-cons (λ (x : ℕ). x) 0 (replicate count 0), sum_none count)

pub kept_none : (buckets : List HeldList) (weights : List ℕ) (count : ℕ) → buckets ≡ replicate count [] → weights ≡ replicate count 0 → 0 < count → count < 2 ^ 32 → AreKept buckets weights 0
kept_none buckets weights count buckets_are weights_are some few =
    subst (λ bs. AreKept bs weights 0) (sym buckets_are) (subst (λ ws. AreKept (replicate count []) ws 0) (sym weights_are) (record {
      placed = record {
        some = omega (arith, some, many);
        each = λ b l. subst (BelongTo (length (replicate {A = HeldList} count [])) b) (sym (get_or-replicate count b [] [] (omega (arith, l, many)))) (λ k d i. absurd (omega arith));
      };
      few = omega (arith, few, many);
      weighs = sym (weightless count);
      total_is = sym (sum_none count);
      light = omega arith;
    }))
  where
    many : length (replicate {A = HeldList} count []) ≡ count
    many = length-replicate count []

-- ---- what a drained bucket leaves behind, and what may be put back

pub bucket_emptied : (buckets after : List HeldList) (bucket : ℕ) → bucket < length buckets → after ≡ set buckets bucket [] → rows_in after bucket ≡ []
bucket_emptied buckets after bucket inside is = ap (λ bs. rows_in bs bucket) is ∙ get_or-set_same buckets bucket [] [] inside

pub drained_belong : (buckets after : List HeldList) (bucket : ℕ) (rows : HeldList) → ArePlaced buckets → bucket < length buckets → after ≡ set buckets bucket [] → rows ≡ rows_in buckets bucket → BelongTo (length after) bucket rows
drained_belong buckets after bucket rows placed inside is rows_are =
    subst (λ n. BelongTo n bucket rows) (sym (ap length is ∙ length-set buckets bucket [])) (subst (BelongTo (length buckets) bucket) (sym rows_are) (placed.each bucket inside))

pub drained_light : (buckets after : List HeldList) (bucket : ℕ) (rows : HeldList) → sum (weights_of buckets) ≤ greatest_total → bucket < length buckets → after ≡ set buckets bucket [] → rows ≡ rows_in buckets bucket
    → sum (weights_of after) + rows_weight rows ≤ greatest_total
drained_light buckets after bucket rows light inside is rows_are = omega (arith, light, ap (λ bs. sum (weights_of bs)) is, ap rows_weight rows_are, sum_set buckets bucket [] inside)

pub read_rows : (buckets : List HeldList) (bucket : ℕ) (rows read : HeldList) → bucket < length buckets → rows ≡ read → read ≡ get_or buckets bucket read → rows ≡ rows_in buckets bucket
read_rows buckets bucket rows read inside is at = is ∙ (at ∙ get_or_default buckets bucket read [] inside)
