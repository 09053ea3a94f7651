use Rattle.std.proofs.Common.{◌<◌, ◌+◌, ◌-◌, ◌^◌, ◌∙◌, ℕ, List, length, sym, ap, subst, arith}
use Rattle.std.proofs.lemmas.Nat.{pow_pos}
use Rattle.least_order.specs.Search.{IsBestSoFar}
use Rattle.least_order.proofs.BestSteps.{filled_none, filled_more, value_of}
use Rattle.least_order.proofs.least.least_rest.Goals as goal
use Rattle.least_order.proofs.least.least_rest.Goals.{in-Some, in-None}

pub loop-set-init : goal.loop-set-init
loop-set-init c =
    let some : 0 < 2 ^ length c.args.items.now = pow_pos (length c.args.items.now) in
    filled_none c.args.items.now c.in_ok-rest.rest.items (c.all_items-sets.result + 1) (omega (arith, some, c.all_items-sets.ensures))
    (c.in_ok-rest.ensures.items_if_clones_equal (λ y same. same))

pub loop-set-preserved : goal.loop-set-preserved
loop-set-preserved c =
    let some : 0 < 2 ^ length c.args.items.now = pow_pos (length c.args.items.now) in
    filled_more c.args.items.now c.loop-set.rest.items c.loop-set.set c.match-first_best.least c.first_best.result
    c.requires c.loop-set-test.true (omega (arith, some, c.all_items-sets.ensures, c.loop-set.auto.set))
    (subst (λ (rest : List ℕ). IsBestSoFar c.args.items.now rest (c.loop-set.set - 1) (length c.args.items.now) c.first_best.result)
    c.deref.ensures.value c.first_best.ensures)
    (elim c.match-first_best.branch [
      | in-Some w ↦ w.least-is ∙ sym (ap value_of w.in-Some.is)
      | in-None w ↦ w.least-is ∙ sym (ap value_of w.in-None.is)
    ])
    c.loop-set.invariant
