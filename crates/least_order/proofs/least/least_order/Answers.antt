use Rattle.std.proofs.Common.{◌≡◌, ◌<◌, ◌^◌, ◌∙◌, ℕ, List, length, get_or, sym, subst, arith}
use Rattle.std.proofs.lemmas.List.{get_or_default}
use Rattle.std.proofs.lemmas.Nat.{pow_pos}
use Rattle.least_order.specs.Orders.{IsFirstAtCost, NoneCostsLess}
use Rattle.least_order.specs.Search.{LeadsBest}
use Rattle.least_order.proofs.Costs.{found_cost, found_first, found_least, found_order, least_below, least_ends}
use Rattle.least_order.proofs.least.least_order.Goals as goal

-- what is read of a list that isn't empty at no position is the first
read_first : (rest : List ℕ) (count value : ℕ) → length rest ≡ 2 ^ count → value ≡ get_or rest 0 value → value ≡ get_or rest 0 0
read_first rest count value len is =
    let some : 0 < 2 ^ count = pow_pos count in
    is ∙ get_or_default rest 0 value 0 (omega (arith, some, len))

pub returns-clause-order : goal.returns-clause-order
returns-clause-order c =
    let leads : LeadsBest c.args.items.now c.in_ok-rest.rest.items 0 c.in_ok-order.order.items =
    subst (λ (rest : List ℕ). LeadsBest c.args.items.now rest 0 c.in_ok-order.order.items) c.deref.ensures.value c.in_ok-order.ensures in
    rw c.from_vec.ensures (found_order c.args.items.now c.in_ok-rest.rest.items c.in_ok-order.order.items leads)

pub returns-clause-cost : goal.returns-clause-cost
returns-clause-cost c =
    let leads : LeadsBest c.args.items.now c.in_ok-rest.rest.items 0 c.in_ok-order.order.items =
    subst (λ (rest : List ℕ). LeadsBest c.args.items.now rest 0 c.in_ok-order.order.items) c.deref.ensures.value c.in_ok-order.ensures in
    rw c.from_vec.ensures
    (read_first c.in_ok-rest.rest.items (length c.args.items.now) c.index.result.now c.in_ok-rest.ensures.len c.index.ensures
    ∙ found_cost c.args.items.now c.in_ok-rest.rest.items c.in_ok-order.order.items c.in_ok-rest.ensures.least leads)

pub returns-clause-least : goal.returns-clause-least
returns-clause-least c =
    subst (λ (cost : ℕ). NoneCostsLess c.args.items.now cost)
    (sym (read_first c.in_ok-rest.rest.items (length c.args.items.now) c.index.result.now c.in_ok-rest.ensures.len c.index.ensures))
    (found_least c.args.items.now c.in_ok-rest.rest.items c.in_ok-rest.ensures.least)

pub returns-clause-first : goal.returns-clause-first
returns-clause-first c =
    let leads : LeadsBest c.args.items.now c.in_ok-rest.rest.items 0 c.in_ok-order.order.items =
    subst (λ (rest : List ℕ). LeadsBest c.args.items.now rest 0 c.in_ok-order.order.items) c.deref.ensures.value c.in_ok-order.ensures in
    rw c.from_vec.ensures
    (subst (λ (cost : ℕ). IsFirstAtCost c.args.items.now cost c.in_ok-order.order.items)
    (sym (read_first c.in_ok-rest.rest.items (length c.args.items.now) c.index.result.now c.in_ok-rest.ensures.len c.index.ensures))
    (found_first c.args.items.now c.in_ok-rest.rest.items c.in_ok-order.order.items c.in_ok-rest.ensures.least leads))

pub returns-clause-certificate : goal.returns-clause-certificate
returns-clause-certificate c =
    let leads : LeadsBest c.args.items.now c.in_ok-rest.rest.items 0 c.in_ok-order.order.items =
    subst (λ (rest : List ℕ). LeadsBest c.args.items.now rest 0 c.in_ok-order.order.items) c.deref.ensures.value c.in_ok-order.ensures in
    let first : c.index.result.now ≡ get_or c.in_ok-rest.rest.items 0 0 =
    read_first c.in_ok-rest.rest.items (length c.args.items.now) c.index.result.now c.in_ok-rest.ensures.len c.index.ensures in
    rw (c.from_vec.ensures, c.from_vec-2.ensures) (record {
      order = found_order c.args.items.now c.in_ok-rest.rest.items c.in_ok-order.order.items leads;
      cost = first ∙ found_cost c.args.items.now c.in_ok-rest.rest.items c.in_ok-order.order.items c.in_ok-rest.ensures.least leads;
      len = c.in_ok-rest.ensures.len;
      all_placed = least_ends c.args.items.now c.in_ok-rest.rest.items c.in_ok-rest.ensures.least;
      none_placed = sym first;
      steps = least_below c.args.items.now c.in_ok-rest.rest.items c.in_ok-rest.ensures.least;
    })
