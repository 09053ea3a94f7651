-- What orders cost, placed item by item, and what the rest of each set says of it.
use Rattle.std.proofs.Common.{◌≡◌, ℕ, ◌+◌, ◌-◌, ◌^◌, ◌<◌, ◌≤◌, true, false, eqb, List, [], ◌∷◌, length, get_or, sym, ◌∙◌, ap, subst, refl, inl, inr, arith, zero-add}
use Rattle.std.proofs.lemmas.Bool.{eqb-true, eq-eqb, ne_eqb, cases_order, cond-false, cond_both, both_ways}
use Rattle.std.proofs.lemmas.List.Sums.{sum_by-cons}
use Rattle.std.proofs.lemmas.Nat.{pow_pos}
use Rattle.std.specs.List.{sum_by}
use Rattle.least_order.specs.declared.item.Item.{Item}
use Rattle.least_order.specs.Certificates.{step_of, rest_through, IsBelowSteps}
use Rattle.least_order.specs.Orders.{Order, IsOrder, cost_of, sets_along, ComesNoLater, NoneCostsLess, IsFirstAtCost}
use Rattle.least_order.specs.Search.{IsFirstBest, AreLeast, LeadsBest}
use Rattle.least_order.specs.Sets.{is_in, with_position}
use Rattle.least_order.specs.Sizes.{size_of}
use Rattle.least_order.proofs.Paths.{completes, completes-parts, completes-cons, completes_from_order, order_from_completes}
use Rattle.least_order.proofs.SetLaws.{in_none, in_with_same, with_below, all_in, none_outside_all}

-- what it costs to place the positions one by one, on top of a set
abbrev pub cost_from : List Item → ℕ → Order → ℕ
cost_from items set [] = 0
cost_from items set (position ∷ order) = step_of items set position + cost_from items (with_position set position) order

-- a set with a position more isn't empty
with_some : (set position : ℕ) → eqb (with_position set position) 0 ≡ false
with_some set position = ne_eqb _ _ (λ e. both_ways (is_in (with_position set position) position)
    (subst (λ (s : ℕ). is_in s position ≡ false) (sym e) (in_none position)) (in_with_same set position))

sizes_along : (items : List Item) (set : ℕ) (order : Order) → eqb set 0 ≡ false
    → cost_from items set order ≡ sum_by (size_of items) (sets_along set order)
sizes_along items set [] some = refl
sizes_along items set (position ∷ order) some =
    let step : step_of items set position ≡ size_of items (with_position set position) = cond-false (eqb set 0) 0 _ some in
    let rest : cost_from items (with_position set position) order ≡ sum_by (size_of items) (sets_along (with_position set position) order) =
    sizes_along items (with_position set position) order (with_some set position) in
    ap (λ (n : ℕ). n + cost_from items (with_position set position) order) step
    ∙ ap (λ (n : ℕ). size_of items (with_position set position) + n) rest
    ∙ sym (sum_by-cons (size_of items) (with_position set position) (sets_along (with_position set position) order))

pub cost_from-none : (items : List Item) (order : Order) → cost_from items 0 order ≡ cost_of items order
cost_from-none items [] = refl
cost_from-none items (position ∷ order) =
    zero-add (cost_from items (with_position 0 position) order) ∙ sizes_along items (with_position 0 position) order (with_some 0 position)

-- a certificate's rest of a set is at most what any order costs from there
pub rest_below : (items : List Item) (rest : List ℕ) → IsBelowSteps items rest → get_or rest (2 ^ length items - 1) 0 ≡ 0
    → (set : ℕ) (order : Order) → set < 2 ^ length items → completes (length items) set order ≡ true
    → get_or rest set 0 ≤ cost_from items set order
rest_below items rest below ends set [] within h =
    let e : get_or rest set 0 ≡ 0 = ap (λ (s : ℕ). get_or rest s 0) (eqb-true set (2 ^ length items - 1) h) ∙ ends in
    omega (arith, e)
rest_below items rest below ends set (position ∷ order) within h =
    let part = completes-parts (length items) set position order h in
    let step : get_or rest set 0 ≤ step_of items set position + get_or rest (with_position set position) 0 =
    below set within position part.within part.left in
    let after : get_or rest (with_position set position) 0 ≤ cost_from items (with_position set position) order =
    rest_below items rest below ends (with_position set position) order (with_below (length items) set position within part.within) part.rest in
    omega (arith, step, after)

-- so no order costs less than the rest of no item
pub certified : (items : List Item) (rest : List ℕ) → IsBelowSteps items rest → get_or rest (2 ^ length items - 1) 0 ≡ 0
    → NoneCostsLess items (get_or rest 0 0)
certified items rest below ends order is_order =
    subst (λ (n : ℕ). get_or rest 0 0 ≤ n) (cost_from-none items order)
    (rest_below items rest below ends 0 order (pow_pos (length items)) (completes_from_order (length items) order is_order))

-- the least rests are below each step
pub least_below : (items : List Item) (rest : List ℕ) → AreLeast items rest 0 → IsBelowSteps items rest
least_below items rest least set within position inside left = elim (least set (omega arith) within) [
  | inl none ↦ absurd (both_ways _ left (none.0 position inside))
  | inr best ↦ best.1.least position inside left
]

-- the rest of all items is nothing
pub least_ends : (items : List Item) (rest : List ℕ) → AreLeast items rest 0 → get_or rest (2 ^ length items - 1) 0 ≡ 0
least_ends items rest least =
    let some : 0 < 2 ^ length items = pow_pos (length items) in
    elim (least (2 ^ length items - 1) (omega arith) (omega (arith, some))) [
      | inl none ↦ none.1
      | inr best ↦ absurd (both_ways _ best.1.left (none_outside_all (length items) best.0 best.1.within))
    ]

-- positions that are the first best ones lead to all
pub leads_completes : (items : List Item) (rest : List ℕ) (set : ℕ) (order : Order) → set < 2 ^ length items
    → LeadsBest items rest set order → completes (length items) set order ≡ true
leads_completes items rest set [] within leads = eq-eqb _ _ (all_in (length items) set within leads)
leads_completes items rest set (position ∷ order) within leads =
    completes-cons (length items) set position order leads.0.1.within leads.0.1.left
    (leads_completes items rest (with_position set position) order (with_below (length items) set position within leads.0.1.within) leads.1)

-- the first best position of a set costs the set's rest
best_is_rest : (items : List Item) (rest : List ℕ) (set position cost : ℕ) → set < 2 ^ length items → AreLeast items rest 0
    → IsFirstBest items rest (length items) set position cost → rest_through items rest set position ≡ get_or rest set 0
best_is_rest items rest set position cost within least best = elim (least set (omega arith) within) [
  | inl none ↦ absurd (both_ways _ best.left (none.0 position best.within))
  | inr other ↦
      let up : get_or rest set 0 ≤ rest_through items rest set position = other.1.least position best.within best.left in
      let down : cost ≤ rest_through items rest set other.0 = best.least other.0 other.1.within other.1.left in
      let is : cost ≡ rest_through items rest set position = best.is in
      let is_other : get_or rest set 0 ≡ rest_through items rest set other.0 = other.1.is in
      omega (arith, up, down, is, is_other)
]

-- they cost the rest of the set that they begin from
pub leads_cost : (items : List Item) (rest : List ℕ) (set : ℕ) (order : Order) → set < 2 ^ length items → AreLeast items rest 0
    → LeadsBest items rest set order → cost_from items set order ≡ get_or rest set 0
leads_cost items rest set [] within least leads =
    sym (ap (λ (s : ℕ). get_or rest s 0) (all_in (length items) set within leads) ∙ least_ends items rest least)
leads_cost items rest set (position ∷ order) within least leads =
    ap (λ (n : ℕ). step_of items set position + n)
    (leads_cost items rest (with_position set position) order (with_below (length items) set position within leads.0.1.within) least leads.1)
    ∙ best_is_rest items rest set position leads.0.0 within least leads.0.1

-- no order of that cost comes before them
pub leads_first : (items : List Item) (rest : List ℕ) (set : ℕ) (order other : Order) → set < 2 ^ length items → AreLeast items rest 0
    → LeadsBest items rest set order → completes (length items) set other ≡ true → cost_from items set other ≡ get_or rest set 0
    → ComesNoLater order other
leads_first items rest set [] other within least leads h cost = tt
leads_first items rest set (position ∷ order) [] within least leads h cost =
    both_ways (is_in set position) leads.0.1.left
    (subst (λ (s : ℕ). is_in s position ≡ true) (sym (eqb-true set (2 ^ length items - 1) h)) (none_outside_all (length items) position leads.0.1.within))
leads_first items rest set (position ∷ order) (first ∷ other) within least leads h cost =
    let part = completes-parts (length items) set first other h in
    let after_within : with_position set first < 2 ^ length items = with_below (length items) set first within part.within in
    let best : rest_through items rest set position ≡ get_or rest set 0 = best_is_rest items rest set position leads.0.0 within least leads.0.1 in
    let is : leads.0.0 ≡ rest_through items rest set position = leads.0.1.is in
    let after : get_or rest (with_position set first) 0 ≤ cost_from items (with_position set first) other =
    rest_below items rest (least_below items rest least) (least_ends items rest least) (with_position set first) other after_within part.rest in
    let up : step_of items set first + get_or rest (with_position set first) 0 ≤ get_or rest set 0 = omega (arith, after, cost) in
    elim (cases_order position first) [
      | inl same ↦ inr (
        same,
        leads_first items rest (with_position set position) order other (with_below (length items) set position within leads.0.1.within) least leads.1
            (subst (λ (p : ℕ). completes (length items) (with_position set p) other ≡ true) (sym same) part.rest)
            (subst (λ (p : ℕ). cost_from items (with_position set p) other ≡ get_or rest (with_position set p) 0) (sym same)
            (let least_first : get_or rest set 0 ≤ step_of items set first + get_or rest (with_position set first) 0 =
            least_below items rest least set within first part.within part.left in
            omega (arith, after, cost, least_first))),
      )
      | inr apart ↦ elim apart [
        | inl before ↦ inl before
        | inr later ↦
            let strict : leads.0.0 < rest_through items rest set first = leads.0.1.first first later part.left in
            absurd (omega (arith, strict, up, best, is))
      ]
    ]

-- no step costs more than the greatest size
pub step_bound : (items : List Item) (set position : ℕ) → step_of items set position ≤ 2 ^ 60
unfolding size_of
step_bound items set position =
    let P : ℕ → Type 0 = λ n. n ≤ 2 ^ 60 in
    cond_both (eqb set 0) 0 (size_of items (with_position set position)) P (λ _. omega arith) (λ _. omega arith)

-- what was found by the first best positions is an order, costs the rest of no item, and comes first at that cost
pub found_order : (items : List Item) (rest : List ℕ) (order : Order) → LeadsBest items rest 0 order → IsOrder (length items) order
found_order items rest order leads = order_from_completes (length items) order (leads_completes items rest 0 order (pow_pos (length items)) leads)

pub found_cost : (items : List Item) (rest : List ℕ) (order : Order) → AreLeast items rest 0 → LeadsBest items rest 0 order
    → get_or rest 0 0 ≡ cost_of items order
found_cost items rest order least leads = sym (leads_cost items rest 0 order (pow_pos (length items)) least leads) ∙ cost_from-none items order

pub found_least : (items : List Item) (rest : List ℕ) → AreLeast items rest 0 → NoneCostsLess items (get_or rest 0 0)
found_least items rest least = certified items rest (least_below items rest least) (least_ends items rest least)

pub found_first : (items : List Item) (rest : List ℕ) (order : Order) → AreLeast items rest 0 → LeadsBest items rest 0 order
    → IsFirstAtCost items (get_or rest 0 0) order
found_first items rest order least leads other is_order same =
    leads_first items rest 0 order other (pow_pos (length items)) least leads
    (completes_from_order (length items) other is_order) (cost_from-none items other ∙ same)
