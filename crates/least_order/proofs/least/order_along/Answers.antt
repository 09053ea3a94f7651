use Rattle.std.proofs.Common.{◌<◌, ◌^◌, ◌++◌, ℕ, List, [], ◌∷◌, length, sym, subst, arith, append_assoc, append-nil}
use Rattle.least_order.specs.Search.{LeadsBest}
use Rattle.least_order.proofs.SetLaws.{with_below, with_grows}
use Rattle.least_order.proofs.least.order_along.Goals as goal

pub loop-next-smaller : goal.loop-next-smaller
loop-next-smaller c =
    let grows : c.loop-next.placed < c.with-placed.result =
    subst (λ (s : ℕ). c.loop-next.placed < s) (sym c.with-placed.ensures) (with_grows c.loop-next.placed c.in-Some.next.position c.in-Some.ensures.left) in
    omega (arith, grows, c.loop-next.invariant.below)

pub loop-next-preserved : goal.loop-next-preserved
loop-next-preserved c =
    let items = c.args.items.now in
    let rest = c.args.rest.now in
    record {
      leads = λ order leads.
          subst (λ (taken : List ℕ). LeadsBest items rest 0 (taken ++ order)) (sym c.in_ok-push.ensures.items)
          (subst (λ (whole : List ℕ). LeadsBest items rest 0 whole) (sym (append_assoc c.loop-next.order.items (c.in-Some.next.position ∷ []) order))
          (c.loop-next.invariant.leads (c.in-Some.next.position ∷ order)
          ((c.in-Some.next.cost, c.in-Some.ensures), subst (λ (s : ℕ). LeadsBest items rest s order) c.with-placed.ensures leads)));
      below = subst (λ (s : ℕ). s < 2 ^ length items) (sym c.with-placed.ensures)
          (with_below (length items) c.loop-next.placed c.in-Some.next.position c.loop-next.invariant.below c.in-Some.ensures.within);
    }

pub returns : goal.returns
returns c =
    subst (λ (order : List ℕ). LeadsBest c.args.items.now c.args.rest.now 0 order) (append-nil c.loop-next.order.items)
    (c.loop-next.invariant.leads [] c.in_default.ensures)
