-- Positions that are the greedy next ones, until none is left, are the greedy order, and the only one.
use Rattle.std.proofs.Common.{◌≡◌, ℕ, ◌-◌, ◌^◌, ◌<◌, true, List, [], ◌∷◌, length, sym, ◌∙◌, subst, refl, inl, inr, arith}
use Rattle.std.proofs.lemmas.Bool.{both_ways, cases_eq, eq-eqb, eqb-true}
use Rattle.std.proofs.lemmas.Nat.{pow_pos}
use Rattle.least_order.specs.declared.item.Item.{Item}
use Rattle.least_order.specs.Greedy.{IsTakenBefore, IsGreedyNext, IsGreedyFrom, IsGreedyOrder}
use Rattle.least_order.specs.Items.{touches}
use Rattle.least_order.specs.Orders.{Order, IsOrder}
use Rattle.least_order.specs.Search.{LeadsGreedy}
use Rattle.least_order.specs.Sets.{is_in, members, with_position}
use Rattle.least_order.proofs.Paths.{completes, completes-parts, completes-cons, completes_from_order, order_from_completes}
use Rattle.least_order.proofs.SetLaws.{all_in, none_outside_all, with_below}

leads_completes : (items : List Item) (placed : ℕ) (order : Order) → placed < 2 ^ length items
    → LeadsGreedy items placed order → completes (length items) placed order ≡ true
leads_completes items placed [] below leads = eq-eqb _ _ (all_in (length items) placed below leads)
leads_completes items placed (position ∷ order) below leads =
    completes-cons (length items) placed position order leads.0.1 leads.0.0.left
    (leads_completes items (with_position placed position) order (with_below (length items) placed position below leads.0.1) leads.1)

pub greedy_is_order : (items : List Item) (order : Order) → LeadsGreedy items 0 order → IsOrder (length items) order
greedy_is_order items order leads = order_from_completes (length items) order (leads_completes items 0 order (pow_pos (length items)) leads)

pub greedy_is_greedy : (items : List Item) (placed : ℕ) (order : Order) → LeadsGreedy items placed order → IsGreedyFrom items placed order
greedy_is_greedy items placed [] leads = tt
greedy_is_greedy items placed (position ∷ order) leads = (leads.0.0, greedy_is_greedy items (with_position placed position) order leads.1)

-- two items aren't each taken before the other
one_before : (placed : List Item) (position : ℕ) (item : Item) (position' : ℕ) (other : Item)
    → IsTakenBefore placed position item position' other → IsTakenBefore placed position' other position item → ⊥
one_before placed position item position' other (inl a) (inl b) = both_ways (touches item placed) b.1 a.0
one_before placed position item position' other (inl a) (inr b) = both_ways (touches item placed) (sym b.0 ∙ a.1) a.0
one_before placed position item position' other (inr a) (inl b) = both_ways (touches item placed) b.1 (a.0 ∙ b.0)
one_before placed position item position' other (inr a) (inr b) =
    elim a.1 [
      | inl less ↦ elim b.1 [ inl more ↦ omega (arith, less, more) | inr same ↦ omega (arith, less, same.0) ]
      | inr same ↦ elim b.1 [ inl more ↦ omega (arith, same.0, more) | inr same' ↦ omega (arith, same.1, same'.1) ]
    ]

one_next : (items : List Item) (placed position position' : ℕ) → IsGreedyNext items placed position → IsGreedyNext items placed position' → position ≡ position'
one_next items placed position position' a b = elim (cases_eq position position') [
  | inl same ↦ same
  | inr apart ↦ absurd (one_before (members items placed) position a.item position' b.item
      (a.best position' b.item b.is b.left (λ e. apart (sym e))) (b.best position a.item a.is a.left apart))
]

one_from : (items : List Item) (placed : ℕ) (order other : Order) → completes (length items) placed order ≡ true → completes (length items) placed other ≡ true
    → IsGreedyFrom items placed order → IsGreedyFrom items placed other → order ≡ other
one_from items placed [] [] c c' g g' = refl
one_from items placed [] (position ∷ other) c c' g g' =
    let part = completes-parts (length items) placed position other c' in
    absurd (both_ways (is_in placed position) part.left
    (subst (λ (s : ℕ). is_in s position ≡ true) (sym (eqb-true placed (2 ^ length items - 1) c)) (none_outside_all (length items) position part.within)))
one_from items placed (position ∷ order) [] c c' g g' =
    let part = completes-parts (length items) placed position order c in
    absurd (both_ways (is_in placed position) part.left
    (subst (λ (s : ℕ). is_in s position ≡ true) (sym (eqb-true placed (2 ^ length items - 1) c')) (none_outside_all (length items) position part.within)))
one_from items placed (position ∷ order) (first ∷ other) c c' g g' =
    let same : position ≡ first = one_next items placed position first g.0 g'.0 in
    let part = completes-parts (length items) placed position order c in
    let part' = completes-parts (length items) placed first other c' in
    let rest : order ≡ other = one_from items (with_position placed position) order other part.rest
    (subst (λ (p : ℕ). completes (length items) (with_position placed p) other ≡ true) (sym same) part'.rest)
    g.1 (subst (λ (p : ℕ). IsGreedyFrom items (with_position placed p) other) (sym same) g'.1) in
    cc

-- there is one greedy order
pub one_greedy_order : (items : List Item) (order other : Order) → IsOrder (length items) order → IsOrder (length items) other
    → IsGreedyOrder items order → IsGreedyOrder items other → order ≡ other
one_greedy_order items order other is is' g g' =
    one_from items 0 order other (completes_from_order (length items) order is) (completes_from_order (length items) other is') g g'
