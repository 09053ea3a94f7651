use Rattle.std.proofs.Common.{◌<◌, ◌^◌, ◌++◌, ℕ, List, [], ◌∷◌, length, sym, subst, arith, append_assoc, append-nil}
use Rattle.std.proofs.lemmas.Option.{slice_get_within}
use Rattle.least_order.specs.Search.{LeadsGreedy}
use Rattle.least_order.proofs.GreedyPaths.{greedy_is_order, greedy_is_greedy, one_greedy_order}
use Rattle.least_order.proofs.SetLaws.{with_below, with_grows}
use Rattle.least_order.proofs.greedy.greedy_order.Goals as goal

pub loop-position-smaller : goal.loop-position-smaller
loop-position-smaller c =
    let grows : c.loop-position.placed < c.with-placed.result =
    subst (λ (s : ℕ). c.loop-position.placed < s) (sym c.with-placed.ensures) (with_grows c.loop-position.placed c.in-Some.position c.in-Some.ensures.left) in
    omega (arith, grows, c.loop-position.invariant.below)

pub loop-position-preserved : goal.loop-position-preserved
loop-position-preserved c =
    let items = c.args.items.now in
    let inside : c.in-Some.position < length items = slice_get_within items c.in-Some.position c.in-Some.ensures.item c.in-Some.ensures.is in
    record {
      leads = λ order leads.
          subst (λ (taken : List ℕ). LeadsGreedy items 0 (taken ++ order)) (sym c.in_ok-push.ensures.ok)
          (subst (λ (whole : List ℕ). LeadsGreedy items 0 whole) (sym (append_assoc c.loop-position.order (c.in-Some.position ∷ []) order))
          (c.loop-position.invariant.leads (c.in-Some.position ∷ order)
          ((c.in-Some.ensures, inside), subst (λ (s : ℕ). LeadsGreedy items s order) c.with-placed.ensures leads)));
      below = subst (λ (s : ℕ). s < 2 ^ length items) (sym c.with-placed.ensures)
          (with_below (length items) c.loop-position.placed c.in-Some.position c.loop-position.invariant.below inside);
    }

pub returns-clause-order : goal.returns-clause-order
returns-clause-order c = greedy_is_order c.args.items.now c.loop-position.order
    (subst (λ (order : List ℕ). LeadsGreedy c.args.items.now 0 order) (append-nil c.loop-position.order) (c.loop-position.invariant.leads [] c.in_default.ensures))

pub returns-clause-greedy : goal.returns-clause-greedy
returns-clause-greedy c = greedy_is_greedy c.args.items.now 0 c.loop-position.order
    (subst (λ (order : List ℕ). LeadsGreedy c.args.items.now 0 order) (append-nil c.loop-position.order) (c.loop-position.invariant.leads [] c.in_default.ensures))

pub returns-clause-only : goal.returns-clause-only
returns-clause-only c other is greedy =
    let leads : LeadsGreedy c.args.items.now 0 c.loop-position.order =
    subst (λ (order : List ℕ). LeadsGreedy c.args.items.now 0 order) (append-nil c.loop-position.order) (c.loop-position.invariant.leads [] c.in_default.ensures) in
    one_greedy_order c.args.items.now c.loop-position.order other (greedy_is_order c.args.items.now c.loop-position.order leads) is
    (greedy_is_greedy c.args.items.now 0 c.loop-position.order leads) greedy
