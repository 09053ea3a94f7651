use Rattle.std.proofs.Common.{◌≡◌, ◌≤◌, ◌+◌, ◌*◌, ◌^◌, ℕ, false, ◌∙◌, length, drop, sym, subst, arith, refl}
use Rattle.std.proofs.lemmas.Bool.{false≢true, both_ways, eq-eqb, ne_eqb}
use Rattle.least_order.proofs.Costs.{cost_from, cost_from-none, step_bound}
use Rattle.least_order.proofs.OrderSteps.{cost_more, path_more, path_past, path_twice, path_end, cost_end}
use Rattle.least_order.proofs.Paths.{completes, completes_from_order, order_from_completes}
use Rattle.least_order.proofs.SetLaws.{with_below}
use Rattle.least_order.proofs.order.order_cost.Goals as goal
use Rattle.least_order.proofs.order.order_cost.Goals.{then-position-items-via-then-position-items, then-position-items-via-else-position-items+then-contains}

pub returns-then-position-items-clause-order : goal.returns-then-position-items-clause-order
returns-then-position-items-clause-order c =
    let none : completes (length c.args.items.now) 0 c.args.order.now ≡ false =
    elim c.then-position-items.branch [
      | then-position-items-via-then-position-items w ↦ c.loop-position.invariant.path
          ∙ path_past (length c.args.items.now) c.loop-position.placed c.loop-position.position-index c.from-position.result c.args.order.now
          c.loop-position-test.true c.from-position.ensures w.if-position-items.true
      | then-position-items-via-else-position-items+then-contains w ↦ c.loop-position.invariant.path
          ∙ path_twice (length c.args.items.now) c.loop-position.placed c.loop-position.position-index c.from-position.result c.args.order.now
          c.loop-position-test.true c.from-position.ensures w.if-position-items.false (sym w.contains.ensures ∙ w.if-contains.true)
    ] in (
      λ e. absurd (false≢true e),
      λ is. absurd (both_ways _ none (completes_from_order (length c.args.items.now) c.args.order.now is)),
    )

pub overflow_add-cost : goal.overflow_add-cost
overflow_add-cost c =
    let step : c.step-cost.result ≤ 2 ^ 60 =
    subst (λ (n : ℕ). n ≤ 2 ^ 60) (sym c.step-cost.ensures) (step_bound c.args.items.now c.loop-position.placed c.from-position.result) in
    omega (arith, step, c.loop-position.invariant.small)

pub loop-position-preserved : goal.loop-position-preserved
loop-position-preserved c =
    let step : c.step-cost.result ≤ 2 ^ 60 =
    subst (λ (n : ℕ). n ≤ 2 ^ 60) (sym c.step-cost.ensures) (step_bound c.args.items.now c.loop-position.placed c.from-position.result) in
    rw (c.with-placed.ensures, c.step-cost.ensures) (record {
      path = c.loop-position.invariant.path
          ∙ path_more (length c.args.items.now) c.loop-position.placed c.loop-position.position-index c.from-position.result c.args.order.now
          c.loop-position-test.true c.from-position.ensures c.if-position-items.false (sym c.contains.ensures ∙ c.if-contains.false);
      cost = cost_more c.args.items.now c.args.order.now c.loop-position.placed c.loop-position.cost c.loop-position.position-index
          c.from-position.result _ c.loop-position-test.true c.from-position.ensures c.loop-position.invariant.cost;
      below = with_below (length c.args.items.now) c.loop-position.placed c.from-position.result c.loop-position.invariant.below c.if-position-items.false;
      small = subst (λ (n : ℕ). c.loop-position.cost + n ≤ (c.loop-position.position-index + 1) * 2 ^ 60) c.step-cost.ensures
          (omega (arith, step, c.loop-position.invariant.small));
    })

pub returns-then-placed-all_items-clause-order : goal.returns-then-placed-all_items-clause-order
returns-then-placed-all_items-clause-order c = (
  λ _. order_from_completes (length c.args.items.now) c.args.order.now
      (c.loop-position.invariant.path
      ∙ path_end (length c.args.items.now) c.loop-position.placed c.loop-position.position-index c.args.order.now c.loop-position-test.false
      ∙ eq-eqb _ _ (c.if-placed-all_items.true ∙ c.all_items.ensures)),
  λ _. refl,
)

pub returns-then-placed-all_items-clause-cost : goal.returns-then-placed-all_items-clause-cost
returns-then-placed-all_items-clause-cost c =
    let none_left : cost_from c.args.items.now c.loop-position.placed (drop c.loop-position.position-index c.args.order.now) ≡ 0 =
    cost_end c.args.items.now c.loop-position.placed c.loop-position.position-index c.args.order.now c.loop-position-test.false in
    let whole : c.loop-position.cost ≡ cost_from c.args.items.now 0 c.args.order.now = omega (arith, none_left, c.loop-position.invariant.cost) in
    whole ∙ cost_from-none c.args.items.now c.args.order.now

pub returns-else-placed-all_items-clause-order : goal.returns-else-placed-all_items-clause-order
returns-else-placed-all_items-clause-order c =
    let none : completes (length c.args.items.now) 0 c.args.order.now ≡ false =
    c.loop-position.invariant.path
    ∙ path_end (length c.args.items.now) c.loop-position.placed c.loop-position.position-index c.args.order.now c.loop-position-test.false
    ∙ ne_eqb _ _ (λ e. c.if-placed-all_items.false (e ∙ sym c.all_items.ensures)) in (
      λ e. absurd (false≢true e),
      λ is. absurd (both_ways _ none (completes_from_order (length c.args.items.now) c.args.order.now is)),
    )
