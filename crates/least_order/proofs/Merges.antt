-- Parts kept as one item each say of their items what is asked: whether they share a variable, and the greatest count.
use Rattle.std.proofs.Common.{◌≡◌, ◌≢◌, ℕ, ◌*◌, Bool, true, false, cond, not, ◌||◌, eqb, max, min, List, [], ◌∷◌, ◌++◌, sym, ◌∙◌, ap, refl, inl, inr, arith, map}
use Rattle.std.proofs.lemmas.Bool.{eq-eqb, ne_eqb, cases_eq}
use Rattle.std.proofs.lemmas.Nat.{and_comm}
use Rattle.std.proofs.lemmas.Nat.Bits.{bit_at-zero, bit_at_or, bit_at_and, same_from_bits}
use Rattle.std.specs.Int.{bit_at}
use Rattle.std.specs.List.{filter, flat_map, fold}
use Rattle.std.specs.Prelude.{bit_or, bit_and}
use Rattle.least_order.specs.declared.item.Item.{Item}
use Rattle.least_order.specs.Items.{shares, touches}
use Rattle.least_order.specs.Merging.{joined, joined_vars, merged_parts, product_of_counts}
use Rattle.least_order.specs.Sizes.{greatest_count, parts_of, product_of}

-- a part as one item
abbrev pub whole : List Item → Item
whole part = record { count = greatest_count part; vars = joined_vars part }

or_assoc : (a b c : ℕ) → bit_or (bit_or a b) c ≡ bit_or a (bit_or b c)
or_assoc a b c = same_from_bits _ _ (λ i.
    let l : bit_at (bit_or (bit_or a b) c) i ≡ max (bit_at (bit_or a b) i) (bit_at c i) = bit_at_or (bit_or a b) c i in
    let l' : bit_at (bit_or a b) i ≡ max (bit_at a i) (bit_at b i) = bit_at_or a b i in
    let r : bit_at (bit_or a (bit_or b c)) i ≡ max (bit_at a i) (bit_at (bit_or b c) i) = bit_at_or a (bit_or b c) i in
    let r' : bit_at (bit_or b c) i ≡ max (bit_at b i) (bit_at c i) = bit_at_or b c i in
    omega (arith, l, l', r, r'))

or_zero : (a : ℕ) → bit_or a 0 ≡ a
or_zero a = same_from_bits _ _ (λ i.
    let l : bit_at (bit_or a 0) i ≡ max (bit_at a i) (bit_at 0 i) = bit_at_or a 0 i in
    let z : bit_at 0 i ≡ 0 = bit_at-zero i in
    omega (arith, l, z))

and_zero : (a : ℕ) → bit_and a 0 ≡ 0
and_zero a = same_from_bits _ _ (λ i.
    let l : bit_at (bit_and a 0) i ≡ min (bit_at a i) (bit_at 0 i) = bit_at_and a 0 i in
    let z : bit_at 0 i ≡ 0 = bit_at-zero i in
    omega (arith, l, z))

and_or : (a b c : ℕ) → bit_and a (bit_or b c) ≡ bit_or (bit_and a b) (bit_and a c)
and_or a b c = same_from_bits _ _ (λ i.
    let l : bit_at (bit_and a (bit_or b c)) i ≡ min (bit_at a i) (bit_at (bit_or b c) i) = bit_at_and a (bit_or b c) i in
    let l' : bit_at (bit_or b c) i ≡ max (bit_at b i) (bit_at c i) = bit_at_or b c i in
    let r : bit_at (bit_or (bit_and a b) (bit_and a c)) i ≡ max (bit_at (bit_and a b) i) (bit_at (bit_and a c) i) = bit_at_or (bit_and a b) (bit_and a c) i in
    let r1 : bit_at (bit_and a b) i ≡ min (bit_at a i) (bit_at b i) = bit_at_and a b i in
    let r2 : bit_at (bit_and a c) i ≡ min (bit_at a i) (bit_at c i) = bit_at_and a c i in
    omega (arith, l, l', r, r1, r2))

or_zero_left : (a b : ℕ) → bit_or a b ≡ 0 → a ≡ 0
or_zero_left a b e = same_from_bits _ _ (λ i.
    let l : bit_at (bit_or a b) i ≡ max (bit_at a i) (bit_at b i) = bit_at_or a b i in
    let z : bit_at (bit_or a b) i ≡ bit_at 0 i = ap (λ (n : ℕ). bit_at n i) e in
    let z' : bit_at 0 i ≡ 0 = bit_at-zero i in
    omega (arith, l, z, z'))

or_zero_right : (a b : ℕ) → bit_or a b ≡ 0 → b ≡ 0
or_zero_right a b e = same_from_bits _ _ (λ i.
    let l : bit_at (bit_or a b) i ≡ max (bit_at a i) (bit_at b i) = bit_at_or a b i in
    let z : bit_at (bit_or a b) i ≡ bit_at 0 i = ap (λ (n : ℕ). bit_at n i) e in
    let z' : bit_at 0 i ≡ 0 = bit_at-zero i in
    omega (arith, l, z, z'))

-- a joined number isn't 0 where one of the two isn't
or_some : (a b : ℕ) → not (eqb (bit_or a b) 0) ≡ (not (eqb a 0) || not (eqb b 0))
or_some a b = elim (cases_eq a 0) [
  | inl none ↦ elim (cases_eq b 0) [
    | inl none' ↦
        let e : bit_or a b ≡ 0 = ap (λ (n : ℕ). bit_or n b) none ∙ ap (λ (n : ℕ). bit_or 0 n) none' ∙ or_zero 0 in
        rw (eq-eqb _ _ e, eq-eqb _ _ none, eq-eqb _ _ none') refl
    | inr some' ↦
        let e : bit_or a b ≢ 0 = (λ z. some' (or_zero_right a b z)) in
        rw (ne_eqb _ _ e, eq-eqb _ _ none, ne_eqb _ _ some') refl
  ]
  | inr some ↦
      let e : bit_or a b ≢ 0 = (λ z. some (or_zero_left a b z)) in
      rw (ne_eqb _ _ e, ne_eqb _ _ some) refl
]

-- an item shares a variable with a part where it does with one of its items
pub touches-whole : (item : Item) (vars : ℕ) (part : List Item) → vars ≡ joined_vars part
    → not (eqb (bit_and item.vars vars) 0) ≡ touches item part
touches-whole item vars part e = ap (λ (v : ℕ). not (eqb (bit_and item.vars v) 0)) e ∙ touched item part
  where
    touched : (item : Item) (part : List Item) → not (eqb (bit_and item.vars (joined_vars part)) 0) ≡ touches item part
    touched item [] = ap (λ (n : ℕ). not (eqb n 0)) (and_zero item.vars)
    touched item (first ∷ part) =
        ap (λ (n : ℕ). not (eqb n 0)) (and_or item.vars first.vars (joined_vars part))
        ∙ or_some (bit_and item.vars first.vars) (bit_and item.vars (joined_vars part))
        ∙ ap (λ (b : Bool). shares item first || b) (touched item part)

max_assoc : (a b c : ℕ) → max (max a b) c ≡ max a (max b c)
max_assoc a b c = omega arith

max_zero_left : (n : ℕ) → max 0 n ≡ n
max_zero_left n = omega arith

max_zero : (n : ℕ) → max n 0 ≡ n
max_zero n = omega arith

made : {count count' vars vars' : ℕ} → count ≡ count' → vars ≡ vars'
    → (let item : Item = record { count = count; vars = vars } in item) ≡ record { count = count'; vars = vars' }
made {count} {count'} {vars} {vars'} e f = cc

joined_assoc : (a b c : Item) → joined (joined a b) c ≡ joined a (joined b c)
joined_assoc a b c = made (max_assoc a.count b.count c.count) (or_assoc a.vars b.vars c.vars)

joined-none : (item : Item) → joined item (whole []) ≡ item
joined-none item = made (max_zero item.count) (or_zero item.vars)

-- a part and another, as one item
joined-whole : (part other : List Item) → whole (part ++ other) ≡ joined (whole part) (whole other)
joined-whole [] other = made (sym (max_zero_left (greatest_count other))) refl
joined-whole (item ∷ part) other =
    ap (λ (rest : Item). joined item rest) (joined-whole part other)
    ∙ sym (joined_assoc item (whole part) (whole other))

-- parts joined one after another are the part of all their items
folded : (item : Item) (parts : List (List Item)) → fold joined item (map whole parts) ≡ joined item (whole (flat_map (λ part. part) parts))
folded item [] = sym (joined-none item)
folded item (part ∷ parts) =
    folded (joined item (whole part)) parts
    ∙ joined_assoc item (whole part) (whole (flat_map (λ (p : List Item). p) parts))
    ∙ ap (λ (rest : Item). joined item rest) (sym (joined-whole part (flat_map (λ (p : List Item). p) parts)))

cond_map : (b : Bool) (part : List Item) (parts : List (List Item))
    → cond b (whole part ∷ map whole parts) (map whole parts) ≡ map whole (cond b (part ∷ parts) parts)
cond_map true part parts = refl
cond_map false part parts = refl

-- the parts that pass a test of the parts
filter-map : (test : List Item → Bool) (test' : Item → Bool) → ((part : List Item) → test' (whole part) ≡ test part)
    → (parts : List (List Item)) → filter test' (map whole parts) ≡ map whole (filter test parts)
filter-map test test' same [] = refl
filter-map test test' same (part ∷ parts) =
    ap (λ (b : Bool). cond b (whole part ∷ filter test' (map whole parts)) (filter test' (map whole parts))) (same part)
    ∙ ap (λ (rest : List Item). cond (test part) (whole part ∷ rest) rest) (filter-map test test' same parts)
    ∙ cond_map (test part) part (filter test parts)

map-append : (parts : List (List Item)) (part : List Item) → map whole (parts ++ part ∷ []) ≡ map whole parts ++ whole part ∷ []
map-append [] part = refl
map-append (first ∷ parts) part = ap (λ (rest : List Item). whole first ∷ rest) (map-append parts part)

shares-whole : (item : Item) (part : List Item) → shares (whole part) item ≡ touches item part
shares-whole item part =
    ap (λ (n : ℕ). not (eqb n 0)) (and_comm (joined_vars part) item.vars) ∙ touches-whole item (joined_vars part) part refl

-- merging an item with parts kept as items is making the parts with an item more
pub merged-whole : (item : Item) (items : List Item) → merged_parts item (map whole (parts_of items)) ≡ map whole (parts_of (item ∷ items))
merged-whole item items =
    let parts : List (List Item) = parts_of items in
    let apart : filter (λ (part : Item). not (shares part item)) (map whole parts) ≡ map whole (filter (λ (part : List Item). not (touches item part)) parts) =
    filter-map (λ part. not (touches item part)) (λ part. not (shares part item)) (λ part. ap not (shares-whole item part)) parts in
    let touching : filter (λ (part : Item). shares part item) (map whole parts) ≡ map whole (filter (touches item) parts) =
    filter-map (touches item) (λ part. shares part item) (shares-whole item) parts in
    ap (λ (front : List Item). front ++ fold joined item (filter (λ (part : Item). shares part item) (map whole parts)) ∷ []) apart
    ∙ ap (λ (last : List Item). map whole (filter (λ (part : List Item). not (touches item part)) parts) ++ fold joined item last ∷ []) touching
    ∙ ap (λ (last : Item). map whole (filter (λ (part : List Item). not (touches item part)) parts) ++ last ∷ []) (folded item (filter (touches item) parts))
    ∙ sym (map-append (filter (λ (part : List Item). not (touches item part)) parts) (item ∷ flat_map (λ (p : List Item). p) (filter (touches item) parts)))

-- so the product of their counts is that of the greatest counts of the parts
pub product-whole : (parts : List (List Item)) → product_of_counts (map whole parts) ≡ product_of parts
product-whole [] = refl
product-whole (part ∷ parts) = ap (λ (n : ℕ). greatest_count part * n) (product-whole parts)
