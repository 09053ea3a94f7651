-- Rows as wide as their variables.
use Rattle.std.proofs.Common.{◌==◌, ◌&&◌, ℕ, List, ◌++◌, length, sym, ap, ◌∙◌}
use Rattle.std.proofs.lemmas.Bool.{and_parts}
use Rattle.std.proofs.lemmas.List.Folds.{list_all-append}
use Rattle.std.specs.List.{list_all}
use Rattle.answer_theory.specs.Bags.{SameBag}
use Rattle.answer_theory.proofs.Numbers.{bag_all}
use Rattle.tuple_core.specs.Values.{RowList}
use Rattle.step_core.specs.Standing.{AreWide}

pub wide_same : (vs : List ℕ) {xs ys : RowList} → SameBag xs ys → AreWide vs xs → AreWide vs ys
wide_same vs {xs} {ys} same wide = sym (bag_all (λ row. length row == length vs) same) ∙ wide

pub wide_parts : (vs : List ℕ) (xs ys : RowList) → AreWide vs (xs ++ ys) → AreWide vs xs × AreWide vs ys
wide_parts vs xs ys wide =
    and_parts (list_all (λ row. length row == length vs) xs) (list_all (λ row. length row == length vs) ys) (sym (list_all-append (λ row. length row == length vs) xs ys) ∙ wide)

pub wide_both : (vs : List ℕ) (xs ys : RowList) → AreWide vs xs → AreWide vs ys → AreWide vs (xs ++ ys)
wide_both vs xs ys a b = list_all-append (λ row. length row == length vs) xs ys ∙ (ap (λ x. x && list_all (λ row. length row == length vs) ys) a ∙ b)
