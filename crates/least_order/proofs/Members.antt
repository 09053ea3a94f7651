-- The items of a set, gathered from the last position back.
use Rattle.std.proofs.Common.{◌≡◌, ℕ, ◌+◌, ◌-◌, ◌*◌, ◌<◌, ◌≤◌, true, false, cond, min, List, ◌∷◌, length, get_or, drop, map, sym, ◌∙◌, ap, subst, inl, inr, arith, mul_assoc}
use Rattle.std.proofs.lemmas.Bool.{cond-true, cond-false, cases_lt}
use Rattle.std.proofs.lemmas.List.{drop_more}
use Rattle.std.proofs.lemmas.Nat.{or_comm}
use Rattle.std.proofs.Math.Nat.{eq-zero-or-pos, mul-le-mul_left, mul-le-mul_right, mul-zero}
use Rattle.std.specs.Prelude.{bit_or}
use Rattle.least_order.specs.declared.item.Item.{Item}
use Rattle.least_order.specs.Merging.{joined_vars, merged_parts, product_of_counts}
use Rattle.least_order.specs.Sets.{is_in, members_from}
use Rattle.least_order.specs.Sizes.{parts_of, greatest_size}
use Rattle.least_order.proofs.Merges.{whole, merged-whole}

-- the items from a position on are its own and those behind it
members_front : (items : List Item) (set position : ℕ) (d : Item) → position < length items
    → members_from position (drop position items) set
    ≡ cond (is_in set position) (get_or items position d ∷ members_from (position + 1) (drop (position + 1) items) set)
    (members_from (position + 1) (drop (position + 1) items) set)
members_front items set position d within =
    ap (λ (rest : List Item). members_from position rest set) (drop_more items position d within)

pub members_with : (items : List Item) (set position : ℕ) (d : Item) → 0 < position → position ≤ length items → is_in set (position - 1) ≡ true
    → members_from (position - 1) (drop (position - 1) items) set ≡ get_or items (position - 1) d ∷ members_from position (drop position items) set
members_with items set position d some within chosen =
    let back : position - 1 + 1 ≡ position = omega arith in
    members_front items set (position - 1) d (omega arith)
    ∙ cond-true (is_in set (position - 1)) _ _ chosen
    ∙ ap (λ (next : ℕ). get_or items (position - 1) d ∷ members_from next (drop next items) set) back

pub members_without : (items : List Item) (set position : ℕ) (d : Item) → 0 < position → position ≤ length items → is_in set (position - 1) ≡ false
    → members_from (position - 1) (drop (position - 1) items) set ≡ members_from position (drop position items) set
members_without items set position d some within chosen =
    let back : position - 1 + 1 ≡ position = omega arith in
    members_front items set (position - 1) d (omega arith)
    ∙ cond-false (is_in set (position - 1)) _ _ chosen
    ∙ ap (λ (next : ℕ). members_from next (drop next items) set) back

-- a factor is cut off at the greatest size at once or in the end
cut : (cap n rest : ℕ) → min cap (min cap n * rest) ≡ min cap (n * rest)
cut cap n rest = elim (cases_lt cap n) [
  | inl above ↦ elim (eq-zero-or-pos rest) [
    | inl none ↦ subst (λ (r : ℕ). min cap (min cap n * r) ≡ min cap (n * r)) (sym none)
        (ap (λ (x : ℕ). min cap x) (mul-zero (min cap n) ∙ sym (mul-zero n)))
    | inr some ↦
        let is : min cap n ≡ cap = omega arith in
        let low : cap * 1 ≤ cap * rest = mul-le-mul_left cap some in
        let high : cap * rest ≤ n * rest = mul-le-mul_right rest (let l : cap ≤ n = omega arith in l) in
        ap (λ (x : ℕ). min cap (x * rest)) is ∙ (let e : min cap (cap * rest) ≡ min cap (n * rest) = omega (arith, low, high) in e)
  ]
  | inr below ↦ ap (λ (x : ℕ). min cap (x * rest)) (let e : min cap n ≡ n = omega arith in e)
]

pub product_more : (parts : List Item) (index product : ℕ) (d : Item) → index < length parts
    → min greatest_size (min greatest_size (product * (get_or parts index d).count) * product_of_counts (drop (index + 1) parts))
    ≡ min greatest_size (product * product_of_counts (drop index parts))
product_more parts index product d within =
    cut greatest_size (product * (get_or parts index d).count) (product_of_counts (drop (index + 1) parts))
    ∙ ap (λ (x : ℕ). min greatest_size x) (mul_assoc product (get_or parts index d).count (product_of_counts (drop (index + 1) parts)))
    ∙ ap (λ (rest : List Item). min greatest_size (product * product_of_counts rest))
    (sym (drop_more parts index d within))

pub vars_more : (items : List Item) (set position vars : ℕ) (d : Item) → 0 < position → position ≤ length items → is_in set (position - 1) ≡ true
    → vars ≡ joined_vars (members_from position (drop position items) set)
    → bit_or vars (get_or items (position - 1) d).vars ≡ joined_vars (members_from (position - 1) (drop (position - 1) items) set)
vars_more items set position vars d some within chosen so_far =
    or_comm vars (get_or items (position - 1) d).vars
    ∙ ap (λ (v : ℕ). bit_or (get_or items (position - 1) d).vars v) so_far
    ∙ sym (ap joined_vars (members_with items set position d some within chosen))

pub parts_more : (items : List Item) (set position : ℕ) (parts : List Item) (d : Item) → 0 < position → position ≤ length items → is_in set (position - 1) ≡ true
    → parts ≡ map whole (parts_of (members_from position (drop position items) set))
    → merged_parts (get_or items (position - 1) d) parts ≡ map whole (parts_of (members_from (position - 1) (drop (position - 1) items) set))
parts_more items set position parts d some within chosen so_far =
    ap (λ (ps : List Item). merged_parts (get_or items (position - 1) d) ps) so_far
    ∙ merged-whole (get_or items (position - 1) d) (members_from position (drop position items) set)
    ∙ ap (λ (xs : List Item). map whole (parts_of xs)) (sym (members_with items set position d some within chosen))
