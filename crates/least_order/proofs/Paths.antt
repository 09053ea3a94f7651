-- Orders as paths from set to set: an order has each position once where it leads from no position to all of them.
use Rattle.std.proofs.Common.{◌≡◌, ℕ, ◌+◌, ◌-◌, ◌^◌, ◌<◌, Bool, true, false, cond, not, ◌&&◌, ◌==◌, eqb, ltb, [], ◌∷◌, sym, ◌∙◌, ap, subst, refl, inl, inr, arith}
use Rattle.std.proofs.lemmas.Bool.{eqb-true, eq-eqb, ne_eqb, ltb-true, lt-ltb, le-ltb, cases_eq, cases_lt, and_parts, and_from, not-true, not_from_false, cond-true, cond-false}
use Rattle.std.proofs.lemmas.List.Sums.{sum_by-cons}
use Rattle.std.proofs.lemmas.Nat.Bits.{bit_at_ones, bit_at_ones_above, bit_at-zero, same_from_bits}
use Rattle.std.specs.Int.{bit_at}
use Rattle.std.specs.List.{count_by}
use Rattle.least_order.specs.Orders.{Order, IsOrder}
use Rattle.least_order.specs.Sets.{is_in, with_position}
use Rattle.least_order.proofs.SetLaws.{bit_outside, bit_with_other, in_with_same}

-- from a set, the order places each position that is left once
abbrev pub completes : ℕ → ℕ → Order → Bool
completes count set [] = set == 2 ^ count - 1
completes count set (position ∷ order) =
    ltb position count && (not (is_in set position) && completes count (with_position set position) order)

pub record Completes (count set position : ℕ) (order : Order) : Type 0 where
  pub within : position < count
  pub left : is_in set position ≡ false
  pub rest : completes count (with_position set position) order ≡ true

pub completes-parts : (count set position : ℕ) (order : Order) → completes count set (position ∷ order) ≡ true
    → Completes count set position order
completes-parts count set position order h =
    let a = and_parts (ltb position count) (not (is_in set position) && completes count (with_position set position) order) h in
    let b = and_parts (not (is_in set position)) (completes count (with_position set position) order) a.1 in
    record { within = ltb-true position count a.0; left = not-true _ b.0; rest = b.1 }

pub completes-cons : (count set position : ℕ) (order : Order) → position < count → is_in set position ≡ false
    → completes count (with_position set position) order ≡ true → completes count set (position ∷ order) ≡ true
completes-cons count set position order within left rest =
    and_from _ _ (lt-ltb position count within) (and_from _ _ (not_from_false _ left) rest)

-- how often the position stands in the order
abbrev pub times : ℕ → Order → ℕ
times position order = count_by (λ placed. placed == position) order

-- what the bits of a set and the order together have of a position
abbrev pub one_below : ℕ → ℕ → ℕ
one_below count position = cond (ltb position count) 1 0

-- 1 where the two are one position
abbrev step_bit : ℕ → ℕ → ℕ
step_bit first position = cond (eqb first position) 1 0

times-cons : (position first : ℕ) (order : Order) → times position (first ∷ order) ≡ step_bit first position + times position order
times-cons position first order = sum_by-cons (λ (placed : ℕ). cond (eqb placed position) 1 0) first order

bits_of_all : (count position : ℕ) → bit_at (2 ^ count - 1) position ≡ one_below count position
bits_of_all count position = elim (cases_lt position count) [
  | inl below ↦ bit_at_ones count position below ∙ sym (cond-true _ 1 0 (lt-ltb position count below))
  | inr above ↦ bit_at_ones_above count position above ∙ sym (cond-false _ 1 0 (le-ltb position count above))
]

-- the bit of a position, with another that wasn't in
bit_with : (set first position : ℕ) → is_in set first ≡ false
    → bit_at (with_position set first) position ≡ step_bit first position + bit_at set position
bit_with set first position left = elim (cases_eq first position) [
  | inl same ↦
      let is_one : bit_at (with_position set first) first ≡ 1 = eqb-true _ _ (in_with_same set first) in
      let was_zero : bit_at set first ≡ 0 = bit_outside set first left in
      let chosen : step_bit first position ≡ 1 = cond-true _ 1 0 (eq-eqb first position same) in
      let there : bit_at (with_position set first) position ≡ 1 = subst (λ (p : ℕ). bit_at (with_position set first) p ≡ 1) same is_one in
      let here : bit_at set position ≡ 0 = subst (λ (p : ℕ). bit_at set p ≡ 0) same was_zero in
      omega (arith, chosen, there, here)
  | inr apart ↦
      let same : bit_at (with_position set first) position ≡ bit_at set position = bit_with_other set first position (λ e. apart (sym e)) in
      let chosen : step_bit first position ≡ 0 = cond-false _ 1 0 (ne_eqb first position apart) in
      omega (arith, chosen, same)
]

counted : (count set : ℕ) (order : Order) → completes count set order ≡ true
    → (position : ℕ) → times position order + bit_at set position ≡ one_below count position
counted count set [] h position =
    let e : bit_at set position ≡ one_below count position =
    ap (λ s. bit_at s position) (eqb-true set (2 ^ count - 1) h) ∙ bits_of_all count position in
    omega (arith, e)
counted count set (first ∷ order) h position =
    let part = completes-parts count set first order h in
    let after : times position order + bit_at (with_position set first) position ≡ one_below count position =
    counted count (with_position set first) order part.rest position in
    let bit : bit_at (with_position set first) position ≡ step_bit first position + bit_at set position =
    bit_with set first position part.left in
    let head : times position (first ∷ order) ≡ step_bit first position + times position order = times-cons position first order in
    omega (arith, after, bit, head)

-- an order that leads from no position to all of them has each of them once
pub order_from_completes : (count : ℕ) (order : Order) → completes count 0 order ≡ true → IsOrder count order
order_from_completes count order h position =
    let all : times position order + bit_at 0 position ≡ one_below count position = counted count 0 order h position in
    let none : bit_at 0 position ≡ 0 = bit_at-zero position in
    omega (arith, all, none)

completed : (count set : ℕ) (order : Order)
    → ((position : ℕ) → times position order + bit_at set position ≡ one_below count position)
    → completes count set order ≡ true
completed count set [] h = eq-eqb set (2 ^ count - 1)
    (same_from_bits set (2 ^ count - 1) (λ position.
    let here : 0 + bit_at set position ≡ one_below count position = h position in
    let there : bit_at (2 ^ count - 1) position ≡ one_below count position = bits_of_all count position in
    omega (arith, here, there)))
completed count set (first ∷ order) h =
    let at_first : times first (first ∷ order) + bit_at set first ≡ one_below count first = h first in
    let head : times first (first ∷ order) ≡ step_bit first first + times first order = times-cons first first order in
    let once : step_bit first first ≡ 1 = cond-true _ 1 0 (eq-eqb first first refl) in
    let within : first < count = elim (cases_lt first count) [
      | inl below ↦ below
      | inr above ↦
          let none : one_below count first ≡ 0 = cond-false _ 1 0 (le-ltb first count above) in
          absurd (omega (arith, at_first, head, once, none))
    ] in
    let one : one_below count first ≡ 1 = cond-true _ 1 0 (lt-ltb first count within) in
    let zero_bit : bit_at set first ≡ 0 = omega (arith, at_first, head, once, one) in
    let left : is_in set first ≡ false = ne_eqb (bit_at set first) 1 (λ e. let z : bit_at set first ≡ 0 = zero_bit in omega (arith, z, e)) in
    completes-cons count set first order within left (completed count (with_position set first) order (λ position.
    let before : times position (first ∷ order) + bit_at set position ≡ one_below count position = h position in
    let bit : bit_at (with_position set first) position ≡ step_bit first position + bit_at set position = bit_with set first position left in
    let head_here : times position (first ∷ order) ≡ step_bit first position + times position order = times-cons position first order in
    omega (arith, before, bit, head_here)))

-- an order that has each position once leads from none to all
pub completes_from_order : (count : ℕ) (order : Order) → IsOrder count order → completes count 0 order ≡ true
completes_from_order count order h = completed count 0 order (λ position.
    let none : bit_at 0 position ≡ 0 = bit_at-zero position in
    let each : times position order ≡ one_below count position = h position in
    omega (arith, none, each))
