-- Sets as numbers: what is in one with a position more, and which set has each position.
use Rattle.std.proofs.Common.{◌≡◌, ◌≢◌, ℕ, ◌+◌, ◌-◌, ◌*◌, ◌^◌, ◌<◌, true, false, eqb, max, sym, ◌∙◌, ap, arith}
use Rattle.std.proofs.lemmas.Bool.{eqb-true, eq-eqb, ne_eqb, eqb-false}
use Rattle.std.proofs.lemmas.Nat.{or_disjoint, or_lt, pow_pos}
use Rattle.std.proofs.lemmas.Nat.Bits.{bit_at-zero, bit_at-lt, bit_at_or, bit_at-pow_same, bit_at-pow_other, bit_at_ones, and_pow, same_from_bits_below}
use Rattle.std.proofs.Math.Nat.{zero-mul}
use Rattle.std.proofs.Math.Pow.{pow-lt}
use Rattle.std.specs.Int.{bit_at}
use Rattle.least_order.specs.Sets.{is_in, with_position}
use Rattle.least_order.specs.Search.{HasNoneLeft}

pub in_none : (position : ℕ) → is_in 0 position ≡ false
in_none position = ne_eqb _ _ (λ e. let z : bit_at 0 position ≡ 0 = bit_at-zero position in omega arith)

-- a position that isn't in has the bit 0
pub bit_outside : (set position : ℕ) → is_in set position ≡ false → bit_at set position ≡ 0
bit_outside set position out =
    let below : bit_at set position < 2 = bit_at-lt set position in
    let not_one : bit_at set position ≢ 1 = eqb-false _ _ out in
    omega (arith, below, not_one)

pub in_with_same : (set position : ℕ) → is_in (with_position set position) position ≡ true
in_with_same set position = eq-eqb _ _
    (bit_at_or set (2 ^ position) position
    ∙ (let below : bit_at set position < 2 = bit_at-lt set position in
    let one : bit_at (2 ^ position) position ≡ 1 = bit_at-pow_same position in
    let m : max (bit_at set position) (bit_at (2 ^ position) position) ≡ 1 = omega (arith, below, one) in m))

pub bit_with_other : (set position other : ℕ) → other ≢ position → bit_at (with_position set position) other ≡ bit_at set other
bit_with_other set position other apart =
    bit_at_or set (2 ^ position) other
    ∙ (let zero_there : bit_at (2 ^ position) other ≡ 0 = bit_at-pow_other position other apart in
    let m : max (bit_at set other) (bit_at (2 ^ position) other) ≡ bit_at set other = omega (arith, zero_there) in m)

pub in_with_other : (set position other : ℕ) → other ≢ position → is_in (with_position set position) other ≡ is_in set other
in_with_other set position other apart = ap (λ n. eqb n 1) (bit_with_other set position other apart)

-- one more position makes the set's number greater
pub with_is_sum : (set position : ℕ) → is_in set position ≡ false → with_position set position ≡ set + 2 ^ position
with_is_sum set position out = or_disjoint set (2 ^ position)
    (and_pow set position ∙ ap (λ n. n * 2 ^ position) (bit_outside set position out) ∙ zero-mul (2 ^ position))

pub with_grows : (set position : ℕ) → is_in set position ≡ false → set < with_position set position
with_grows set position out =
    let sum : with_position set position ≡ set + 2 ^ position = with_is_sum set position out in
    let some : 0 < 2 ^ position = pow_pos position in
    omega (arith, sum, some)

pub with_below : (count set position : ℕ) → set < 2 ^ count → position < count → with_position set position < 2 ^ count
with_below count set position below within = or_lt count set (2 ^ position) below (pow-lt within)

-- a set of so many items that lacks none is the set of all
pub all_in : (count set : ℕ) → set < 2 ^ count → HasNoneLeft count set → set ≡ 2 ^ count - 1
all_in count set below none = same_from_bits_below count set (2 ^ count - 1) below (let some : 0 < 2 ^ count = pow_pos count in omega (arith, some))
    (λ i within. eqb-true _ _ (none i within) ∙ sym (bit_at_ones count i within))

pub none_outside_all : (count : ℕ) → HasNoneLeft count (2 ^ count - 1)
none_outside_all count position within = eq-eqb _ _ (bit_at_ones count position within)
