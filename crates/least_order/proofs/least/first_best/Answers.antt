use Rattle.std.proofs.Common.{◌≤◌, ◌<◌, ◌+◌, ◌-◌, ◌*◌, ◌^◌, ◌∙◌, ℕ, length, get_or, sym, ap, subst, arith}
use Rattle.least_order.specs.Certificates.{step_of}
use Rattle.least_order.proofs.BestSteps.{skip_placed, take_left}
use Rattle.least_order.proofs.Costs.{step_bound}
use Rattle.least_order.proofs.SetLaws.{with_below}
use Rattle.least_order.proofs.least.first_best.Goals as goal
use Rattle.least_order.proofs.least.first_best.Goals.{then-not-contains, else-not-contains}

pub offset_bounds-rest-with : goal.offset_bounds-rest-with
offset_bounds-rest-with c =
    let inside : c.with.result < 2 ^ length c.args.items.now =
    subst (λ (n : ℕ). n < 2 ^ length c.args.items.now) (sym c.with.ensures)
    (with_below (length c.args.items.now) c.args.set c.loop-position.position c.requires.set c.loop-position-test.true) in
    omega (arith, inside, c.requires.len)

pub bounds-rest-with : goal.bounds-rest-with
bounds-rest-with c =
    let inside : c.with.result < 2 ^ length c.args.items.now =
    subst (λ (n : ℕ). n < 2 ^ length c.args.items.now) (sym c.with.ensures)
    (with_below (length c.args.items.now) c.args.set c.loop-position.position c.requires.set c.loop-position-test.true) in
    omega (arith, inside, c.requires.len)

pub overflow_add-cost : goal.overflow_add-cost
overflow_add-cost c =
    let step : c.step.result ≤ 2 ^ 60 = subst (λ (n : ℕ). n ≤ 2 ^ 60) (sym c.step.ensures) (step_bound c.args.items.now c.args.set c.loop-position.position) in
    let after : get_or c.args.rest.now c.with.result 0 ≤ (255 - c.with.result) * 2 ^ 60 = c.requires.bounded c.with.result in
    omega (arith, step, after)

pub loop-position-preserved : goal.loop-position-preserved
loop-position-preserved c =
    elim c.if-not-contains.branch [
      | then-not-contains w ↦ rw (w.best-is, w.lesser.ensures)
          (take_left c.args.items.now c.args.rest.now c.args.set c.loop-position.position (w.step.result + get_or c.args.rest.now w.with.result 0) c.loop-position.best
          (sym c.contains.ensures ∙ w.if-not-contains.true)
          (ap (λ (n : ℕ). n + get_or c.args.rest.now w.with.result 0) w.step.ensures
          ∙ ap (λ (s : ℕ). step_of c.args.items.now c.args.set c.loop-position.position + get_or c.args.rest.now s 0) w.with.ensures)
          c.loop-position.invariant)
      | else-not-contains w ↦ rw w.best-is
          (skip_placed c.args.items.now c.args.rest.now c.args.set c.loop-position.position c.loop-position.best
          (sym c.contains.ensures ∙ w.if-not-contains.false) c.loop-position.invariant)
    ]
