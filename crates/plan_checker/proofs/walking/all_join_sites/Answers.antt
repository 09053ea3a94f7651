use Rattle.std.proofs.Common.{◌≡◌, suc, ◌+◌, ◌++◌, ◌∷◌, drop, arith, sym, ap, ◌∙◌, drop-cons}
use Rattle.plan_reader.specs.declared.plan.Fragment.{Fragment}
use Rattle.plan_checker.specs.Places.{all_join_sites}
use Rattle.plan_checker.proofs.WalkLaws.{one_tree_more}
use Rattle.plan_checker.proofs.walking.all_join_sites.Goals as goal

pub loop-fragment-preserved : goal.loop-fragment-preserved
loop-fragment-preserved c =
    let fs = c.args.fragments.now in
    let i = c.loop-fragment.fragment-index in
    let f = c.fragment-item.result in
    let next : suc i ≡ i + 1 = omega arith in
    let left : drop i fs ≡ f ∷ drop (i + 1) fs = drop-cons fs i f (omega arith) ∙ ap (λ (g : Fragment). g ∷ drop (suc i) fs) (sym c.fragment-item.is) ∙ ap (λ k. f ∷ drop k fs) next in
    one_tree_more c.loop-fragment.finished.items c.push.new.self.items c.loop-fragment.sites f (drop (i + 1) fs) c.in_ok-walk.walk c.pop.result (all_join_sites _ fs)
    (ap (λ gs. c.loop-fragment.sites ++ all_join_sites c.loop-fragment.finished.items gs) (sym left) ∙ c.loop-fragment.invariant)
    (cc (c.in_ok-walk.ensures, c.as_slice.ensures.value, c.nodes.ensures)) c.pop.ensures.top c.in_ok-push.ensures.items
