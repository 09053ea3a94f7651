use Rattle.std.proofs.Common.{◌≡◌, ℕ, suc, ◌+◌, ◌∷◌, List, drop, get_or, arith, sym, ap, ◌∙◌, ◌||◌, drop-cons}
use Rattle.answer_theory.specs.Solutions.{names}
use Rattle.plan_checker.proofs.NamingLaws.{one_name_more}
use Rattle.plan_checker.proofs.unknown.set_of.Goals as goal

pub loop-number-preserved : goal.loop-number-preserved
loop-number-preserved c n =
    let numbers = c.args.numbers.now in
    let i = c.loop-number.number-index in
    let next : suc i ≡ i + 1 = omega arith in
    one_name_more c.loop-number.set.keys c.insert_full.new.self.keys (drop (i + 1) numbers) (get_or numbers i 0) n c.in_ok-insert_full.ensures.keys
    ∙ ap (λ (ns : List ℕ). names c.loop-number.set.keys n || names ns n) (ap (λ k. get_or numbers i 0 ∷ drop k numbers) (sym next) ∙ sym (drop-cons numbers i 0 (omega arith))) ∙ c.loop-number.invariant n
