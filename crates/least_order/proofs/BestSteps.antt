-- One more position that is looked at for the first best, and one more set whose rest is known.
use Rattle.std.proofs.Common.{◌≡◌, ◌≢◌, ℕ, ◌+◌, ◌-◌, ◌*◌, ◌^◌, ◌<◌, ◌≤◌, true, false, leb, Option, Some, None, List, length, get_or, set, sym, ◌∙◌, ap, subst, inl, inr, arith, get_or-set_same, get_or-set_other, replicate}
use Rattle.std.proofs.lemmas.List.{get_or-replicate, get_or_past, length-replicate, length-set}
use Rattle.std.proofs.lemmas.Bool.{both_ways, cases_eq, cases_lt, cond_both, leb-true, leb-false}
use Rattle.std.proofs.Math.Pow.{pow_mono}
use Rattle.least_order.specs.declared.item.Item.{Item}
use Rattle.least_order.specs.declared.least.Next.{Next}
use Rattle.least_order.specs.Certificates.{step_of, rest_through}
use Rattle.least_order.specs.Search.{HasNoneLeft, IsFirstBest, IsBestSoFar, IsLeastAt, AreLeast, IsBounded, lesser_of}
use Rattle.least_order.specs.Sets.{is_in, with_position}
use Rattle.least_order.proofs.Costs.{step_bound}
use Rattle.least_order.proofs.SetLaws.{with_below, with_grows}

-- what holds below a position and at it holds below the next
pub none_more : (count placed : ℕ) → HasNoneLeft count placed → is_in placed count ≡ true → HasNoneLeft (count + 1) placed
none_more count placed none here position below = elim (cases_eq position count) [
  | inl same ↦ subst (λ (p : ℕ). is_in placed p ≡ true) (sym same) here
  | inr apart ↦ none position (omega arith)
]

pub skip_placed : (items : List Item) (rest : List ℕ) (placed count : ℕ) (best : Option Next) → is_in placed count ≡ true
    → IsBestSoFar items rest placed count best → IsBestSoFar items rest placed (count + 1) best
skip_placed items rest placed count None here so_far = none_more count placed so_far here
skip_placed items rest placed count (Some next) here so_far = record {
  within = let w : next.position < count = so_far.within in omega (arith, w);
  left = so_far.left;
  is = so_far.is;
  least = λ other below left. elim (cases_eq other count) [
    | inl same ↦ absurd (both_ways (is_in placed count) (subst (λ (p : ℕ). is_in placed p ≡ false) same left) here)
    | inr apart ↦ so_far.least other (omega arith) left
  ];
  first = so_far.first;
}

pub take_left : (items : List Item) (rest : List ℕ) (placed count cost : ℕ) (best : Option Next) → is_in placed count ≡ false
    → cost ≡ rest_through items rest placed count
    → IsBestSoFar items rest placed count best
    → IsBestSoFar items rest placed (count + 1) (Some (lesser_of best (record { position = count; cost = cost })))
take_left items rest placed count cost None here is so_far = record {
  within = omega arith;
  left = here;
  is = is;
  least = λ other below left. elim (cases_eq other count) [
    | inl same ↦ subst (λ (p : ℕ). cost ≤ rest_through items rest placed p) (sym same) (omega (arith, is))
    | inr apart ↦ absurd (both_ways (is_in placed other) left (so_far other (omega arith)))
  ];
  first = λ other below left. absurd (both_ways (is_in placed other) left (so_far other below));
}
take_left items rest placed count cost (Some next) here is so_far =
    let new : Next = record { position = count; cost = cost } in
    let P : Next → Type 0 = λ n. IsFirstBest items rest (count + 1) placed n.position n.cost in
    cond_both (leb next.cost cost) next new P
    (λ keep.
    let no_more : next.cost ≤ cost = leb-true next.cost cost keep in
    let within : next.position < count = so_far.within in
    record {
      within = omega (arith, within);
      left = so_far.left;
      is = so_far.is;
      least = λ other below left. elim (cases_eq other count) [
        | inl same ↦ subst (λ (p : ℕ). next.cost ≤ rest_through items rest placed p) (sym same) (omega (arith, is, no_more))
        | inr apart ↦ so_far.least other (omega arith) left
      ];
      first = so_far.first;
    })
    (λ change.
    let less : cost < next.cost = leb-false next.cost cost change in
    record {
      within = omega arith;
      left = here;
      is = is;
      least = λ other below left. elim (cases_eq other count) [
        | inl same ↦ subst (λ (p : ℕ). cost ≤ rest_through items rest placed p) (sym same) (omega (arith, is))
        | inr apart ↦ (let bound : next.cost ≤ rest_through items rest placed other = so_far.least other (omega arith) left in omega (arith, bound, less))
      ];
      first = λ other below left. let bound : next.cost ≤ rest_through items rest placed other = so_far.least other below left in omega (arith, bound, less);
    })

-- a rest that is written doesn't count for sets that are no smaller
through_set : (items : List Item) (rest : List ℕ) (written value placed position : ℕ) → written ≤ placed → is_in placed position ≡ false
    → rest_through items (set rest written value) placed position ≡ rest_through items rest placed position
through_set items rest written value placed position above left =
    let more : placed < with_position placed position = with_grows placed position left in
    ap (λ (n : ℕ). step_of items placed position + n)
    (get_or-set_other rest written (with_position placed position) value 0 (let apart : with_position placed position ≢ written = omega (arith, more) in apart))

best_set : (items : List Item) (rest : List ℕ) (written value count placed position cost : ℕ) → written ≤ placed
    → IsFirstBest items rest count placed position cost → IsFirstBest items (set rest written value) count placed position cost
best_set items rest written value count placed position cost above best = record {
  within = best.within;
  left = best.left;
  is = best.is ∙ sym (through_set items rest written value placed position above best.left);
  least = λ other below left. subst (λ (n : ℕ). cost ≤ n) (sym (through_set items rest written value placed other above left)) (best.least other below left);
  first = λ other below left. subst (λ (n : ℕ). cost < n) (sym (through_set items rest written value placed other above left)) (best.first other below left);
}

-- the value that the first best gives, or nothing where none is left
abbrev pub value_of : Option Next → ℕ
value_of None = 0
value_of (Some next) = next.cost

least_here : (items : List Item) (rest : List ℕ) (placed : ℕ) (best : Option Next) → placed < length rest
    → IsBestSoFar items rest placed (length items) best → IsLeastAt items (set rest placed (value_of best)) placed
least_here items rest placed None within so_far = inl (so_far, get_or-set_same rest placed 0 0 within)
least_here items rest placed (Some next) within so_far = inr (
  next.position,
  subst (λ (n : ℕ). IsFirstBest items (set rest placed next.cost) (length items) placed next.position n)
      (sym (get_or-set_same rest placed next.cost 0 within))
      (best_set items rest placed next.cost (length items) placed next.position next.cost (omega arith) so_far),
)

pub least_more : (items : List Item) (rest : List ℕ) (placed : ℕ) (best : Option Next) → placed < length rest
    → IsBestSoFar items rest placed (length items) best → AreLeast items rest (placed + 1)
    → AreLeast items (set rest placed (value_of best)) placed
least_more items rest placed best within so_far least other above below = elim (cases_eq other placed) [
  | inl same ↦ subst (λ (s : ℕ). IsLeastAt items (set rest placed (value_of best)) s) (sym same) (least_here items rest placed best within so_far)
  | inr apart ↦ elim (least other (omega arith) below) [
    | inl none ↦ inl (none.0, get_or-set_other rest placed other (value_of best) 0 apart ∙ none.1)
    | inr first ↦ inr (
      first.0,
      subst (λ (n : ℕ). IsFirstBest items (set rest placed (value_of best)) (length items) other first.0 n)
          (sym (get_or-set_other rest placed other (value_of best) 0 apart))
          (best_set items rest placed (value_of best) (length items) other first.0 (get_or rest other 0) above first.1),
    )
  ]
]

-- no rest gets too large
value_bound : (items : List Item) (rest : List ℕ) (placed : ℕ) (best : Option Next) → length items ≤ 8 → placed < 2 ^ length items
    → IsBounded rest → IsBestSoFar items rest placed (length items) best → value_of best ≤ (255 - placed) * 2 ^ 60
value_bound items rest placed None few below bounded so_far = omega arith
value_bound items rest placed (Some next) few below bounded so_far =
    let is : next.cost ≡ step_of items placed next.position + get_or rest (with_position placed next.position) 0 = so_far.is in
    let step : step_of items placed next.position ≤ 2 ^ 60 = step_bound items placed next.position in
    let after : get_or rest (with_position placed next.position) 0 ≤ (255 - with_position placed next.position) * 2 ^ 60 =
    bounded (with_position placed next.position) in
    let grows : placed < with_position placed next.position = with_grows placed next.position so_far.left in
    let inside : with_position placed next.position < 2 ^ length items = with_below (length items) placed next.position below so_far.within in
    let most : 2 ^ length items ≤ 2 ^ 8 = pow_mono few in
    omega (arith, is, step, after, grows, inside, most)

pub bounded_more : (items : List Item) (rest : List ℕ) (placed : ℕ) (best : Option Next) → length items ≤ 8 → placed < 2 ^ length items
    → placed < length rest → IsBounded rest → IsBestSoFar items rest placed (length items) best
    → IsBounded (set rest placed (value_of best))
bounded_more items rest placed best few below within bounded so_far other = elim (cases_eq other placed) [
  | inl same ↦ subst (λ (s : ℕ). get_or (set rest placed (value_of best)) s 0 ≤ (255 - s) * 2 ^ 60) (sym same)
      (subst (λ (n : ℕ). n ≤ (255 - placed) * 2 ^ 60) (sym (get_or-set_same rest placed (value_of best) 0 within))
      (value_bound items rest placed best few below bounded so_far))
  | inr apart ↦ subst (λ (n : ℕ). n ≤ (255 - other) * 2 ^ 60) (sym (get_or-set_other rest placed other (value_of best) 0 apart)) (bounded other)
]

-- the rests of the sets from a number on are known
pub record IsFilled (items : List Item) (rest : List ℕ) (from : ℕ) : Type 0 where
  pub len : length rest ≡ 2 ^ length items
  pub least : AreLeast items rest from
  pub bounded : IsBounded rest

pub filled_none : (items : List Item) (rest : List ℕ) (from : ℕ) → from ≡ 2 ^ length items → rest ≡ replicate from 0 → IsFilled items rest from
filled_none items rest from is zeros = let nothing : ℕ = 0 in record {
  len = ap length zeros ∙ length-replicate from 0 ∙ is;
  least = λ placed above below. absurd (omega (arith, is));
  bounded = λ placed. subst (λ (xs : List ℕ). get_or xs placed 0 ≤ (255 - placed) * 2 ^ 60) (sym zeros)
      (let zero_there : get_or (replicate from nothing) placed nothing ≡ nothing = elim (cases_lt placed from) [
        | inl inside ↦ get_or-replicate from placed nothing nothing inside
        | inr past ↦ get_or_past (replicate from nothing) placed nothing (let long : length (replicate from nothing) ≡ from = length-replicate from nothing in omega (arith, long))
      ] in
      omega (arith, zero_there));
}

pub filled_more : (items : List Item) (rest : List ℕ) (from value : ℕ) (best : Option Next) → length items ≤ 8 → 0 < from → from ≤ 2 ^ length items
    → IsBestSoFar items rest (from - 1) (length items) best → value ≡ value_of best → IsFilled items rest from
    → IsFilled items (set rest (from - 1) value) (from - 1)
filled_more items rest from value best few some within so_far is filled =
    let long : length rest ≡ 2 ^ length items = filled.len in
    let inside : from - 1 < length rest = omega (arith, long) in
    let below : from - 1 < 2 ^ length items = omega arith in
    let back : from ≡ from - 1 + 1 = omega arith in
    record {
      len = length-set rest (from - 1) value ∙ long;
      least = subst (λ (v : ℕ). AreLeast items (set rest (from - 1) v) (from - 1)) (sym is)
          (least_more items rest (from - 1) best inside so_far (subst (λ (n : ℕ). AreLeast items rest n) back filled.least));
      bounded = subst (λ (v : ℕ). IsBounded (set rest (from - 1) v)) (sym is)
          (bounded_more items rest (from - 1) best few below inside filled.bounded so_far);
    }
