use Rattle.std.proofs.Common.{◌∙◌, ℕ, Option, sym, subst}
use Rattle.least_order.specs.declared.item.Item.{Item}
use Rattle.least_order.specs.Search.{IsGreedySoFar}
use Rattle.least_order.proofs.GreedySteps.{all_greedy, better_greedy, first_greedy, keep_greedy, skip_greedy}
use Rattle.least_order.proofs.greedy.greedy_next.Goals as goal
use Rattle.least_order.proofs.greedy.greedy_next.Goals.{then-not-contains+in-Some, then-not-contains+in_default-2, then-not-contains+in_default, else-not-contains}

pub loop-position-preserved : goal.loop-position-preserved
loop-position-preserved c =
    let d : Item = record { count = 0; vars = 0 } in
    elim c.if-not-contains.branch [
      | then-not-contains+in-Some w ↦ rw w.best-is
          (keep_greedy c.args.items.now c.args.placed c.loop-position.position c.vars_of-vars.result w.in-Some.first d c.loop-position-test.true
          c.vars_of-vars.ensures
          (subst (λ (best : Option ℕ). IsGreedySoFar c.args.items.now c.args.placed c.loop-position.position best) w.in-Some.is c.loop-position.invariant)
          (sym w.is_better.ensures ∙ w.if-not-is_better.true))
      | then-not-contains+in_default-2 w ↦ rw w.best-is
          (better_greedy c.args.items.now c.args.placed c.loop-position.position c.vars_of-vars.result w.in-Some.first d c.loop-position-test.true
          (sym c.contains.ensures ∙ w.if-not-contains.true) c.vars_of-vars.ensures
          (subst (λ (best : Option ℕ). IsGreedySoFar c.args.items.now c.args.placed c.loop-position.position best) w.in-Some.is c.loop-position.invariant)
          (sym w.is_better.ensures ∙ w.if-not-is_better.false))
      | then-not-contains+in_default w ↦ rw w.best-is
          (first_greedy c.args.items.now c.args.placed c.loop-position.position d c.loop-position-test.true
          (sym c.contains.ensures ∙ w.if-not-contains.true)
          (subst (λ (best : Option ℕ). IsGreedySoFar c.args.items.now c.args.placed c.loop-position.position best) w.in_default.is c.loop-position.invariant))
      | else-not-contains w ↦ rw w.best-is
          (skip_greedy c.args.items.now c.args.placed c.loop-position.position c.loop-position.best
          (sym c.contains.ensures ∙ w.if-not-contains.false) c.loop-position.invariant)
    ]

pub returns : goal.returns
returns c = all_greedy c.args.items.now c.args.placed c.loop-position.position c.loop-position.best c.loop-position-test.false c.loop-position.auto.position-end c.loop-position.invariant
