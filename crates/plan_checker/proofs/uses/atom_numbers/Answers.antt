use Rattle.std.proofs.Common.{◌≡◌, ℕ, ◌+◌, ◌++◌, ◌∷◌, [], List, arith, sym, ap, ◌∙◌}
use Rattle.answer_theory.specs.Bags.{numbers_from}
use Rattle.plan_checker.proofs.CountLaws.{one_number_more}
use Rattle.plan_checker.proofs.uses.atom_numbers.Goals as goal

pub loop-index-preserved : goal.loop-index-preserved
loop-index-preserved c =
    let i = c.loop-index.index in
    let last : i + 1 ≡ 1 + i = omega arith in
    c.in_ok-push.ensures.ok ∙ ap (λ (ns : List ℕ). ns ++ (i + 1) ∷ []) c.loop-index.invariant ∙ ap (λ n. numbers_from 1 i ++ n ∷ []) last ∙ sym (one_number_more 1 i)
