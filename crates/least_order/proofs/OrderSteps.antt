-- One more position of an order.
use Rattle.std.proofs.Common.{◌≡◌, ℕ, ◌+◌, ◌-◌, ◌^◌, ◌<◌, ◌≤◌, ◌&&◌, not, Bool, true, false, eqb, ltb, List, ◌∷◌, length, get_or, drop, sym, ◌∙◌, ap, arith}
use Rattle.std.proofs.lemmas.Bool.{lt-ltb, le-ltb}
use Rattle.std.proofs.lemmas.List.{drop_more, drop_all}
use Rattle.least_order.specs.declared.item.Item.{Item}
use Rattle.least_order.specs.Certificates.{step_of}
use Rattle.least_order.specs.Orders.{Order}
use Rattle.least_order.specs.Sets.{is_in, with_position}
use Rattle.least_order.proofs.Costs.{cost_from}
use Rattle.least_order.proofs.Paths.{completes}

pub cost_more : (items : List Item) (order : Order) (placed cost index position total : ℕ) → index < length order → position ≡ get_or order index 0
    → cost + cost_from items placed (drop index order) ≡ total
    → cost + step_of items placed position + cost_from items (with_position placed position) (drop (index + 1) order) ≡ total
cost_more items order placed cost index position total within is so_far =
    let rest : cost_from items placed (drop index order)
    ≡ step_of items placed position + cost_from items (with_position placed position) (drop (index + 1) order) =
    ap (λ (left : List ℕ). cost_from items placed left)
    (drop_more order index 0 within ∙ ap (λ (p : ℕ). p ∷ drop (index + 1) order) (sym is)) in
    omega (arith, rest, so_far)

completes-front : (count placed index position : ℕ) (order : Order) → index < length order → position ≡ get_or order index 0
    → completes count placed (drop index order)
    ≡ (ltb position count && (not (is_in placed position) && completes count (with_position placed position) (drop (index + 1) order)))
completes-front count placed index position order within is =
    ap (λ (left : List ℕ). completes count placed left)
    (drop_more order index 0 within ∙ ap (λ (p : ℕ). p ∷ drop (index + 1) order) (sym is))

pub path_more : (count placed index position : ℕ) (order : Order) → index < length order → position ≡ get_or order index 0
    → position < count → is_in placed position ≡ false
    → completes count placed (drop index order) ≡ completes count (with_position placed position) (drop (index + 1) order)
path_more count placed index position order within is below left =
    completes-front count placed index position order within is
    ∙ ap (λ (b : Bool). b && (not (is_in placed position) && completes count (with_position placed position) (drop (index + 1) order))) (lt-ltb position count below)
    ∙ ap (λ (b : Bool). not b && completes count (with_position placed position) (drop (index + 1) order)) left

pub path_past : (count placed index position : ℕ) (order : Order) → index < length order → position ≡ get_or order index 0
    → count ≤ position → completes count placed (drop index order) ≡ false
path_past count placed index position order within is past =
    completes-front count placed index position order within is
    ∙ ap (λ (b : Bool). b && (not (is_in placed position) && completes count (with_position placed position) (drop (index + 1) order))) (le-ltb position count past)

pub path_twice : (count placed index position : ℕ) (order : Order) → index < length order → position ≡ get_or order index 0
    → position < count → is_in placed position ≡ true → completes count placed (drop index order) ≡ false
path_twice count placed index position order within is below twice =
    completes-front count placed index position order within is
    ∙ ap (λ (b : Bool). b && (not (is_in placed position) && completes count (with_position placed position) (drop (index + 1) order))) (lt-ltb position count below)
    ∙ ap (λ (b : Bool). not b && completes count (with_position placed position) (drop (index + 1) order)) twice

pub path_end : (count placed index : ℕ) (order : Order) → length order ≤ index
    → completes count placed (drop index order) ≡ eqb placed (2 ^ count - 1)
path_end count placed index order past = ap (λ (left : List ℕ). completes count placed left) (drop_all index order past)

pub cost_end : (items : List Item) (placed index : ℕ) (order : Order) → length order ≤ index → cost_from items placed (drop index order) ≡ 0
cost_end items placed index order past = ap (λ (left : List ℕ). cost_from items placed left) (drop_all index order past)
