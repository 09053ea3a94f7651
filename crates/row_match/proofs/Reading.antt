-- A filter reads the values of its comparisons' variables, and nothing else.
use Rattle.std.proofs.Common.{◌≡◌, ℕ, true, ◌&&◌, ◌||◌, ◌==◌, List, [], ◌∷◌, ◌++◌, refl, ap, ap₂, ◌∙◌}
use Rattle.std.proofs.lemmas.Bool.{or_right}
use Rattle.answer_theory.specs.Bindings.{Binding, value_of}
use Rattle.answer_theory.specs.Solutions.{names, ReadsOnly}
use Rattle.answer_theory.proofs.Bools.{nat_eq_self}
use Rattle.answer_theory.proofs.Lists.{any_append}
use Rattle.tuple_core.specs.declared.value.Value.{Value}
use Rattle.row_match.specs.Filters.{side_value, both_compare, holds_in, all_hold, comparison_variables}
use Rattle.row_match.specs.Patterns.{term_variables}
use Rattle.row_match.specs.declared.filter.Comparison.{Comparison}
use Rattle.row_match.specs.declared.pattern.Term.{Term}
use Rattle.row_match.specs.declared.pattern.Term.TheVariants as term

-- the same value of each of the variables
abbrev AreAlike : List ℕ → Binding Value → Binding Value → Type 0
AreAlike vs b c = (v : ℕ) → names vs v ≡ true → value_of b v ≡ value_of c v

alike_left : (us vs : List ℕ) (b c : Binding Value) → AreAlike (us ++ vs) b c → AreAlike us b c
alike_left us vs b c h v e = h v (any_append (λ w. w == v) us vs ∙ ap (λ t. t || names vs v) e)

alike_right : (us vs : List ℕ) (b c : Binding Value) → AreAlike (us ++ vs) b c → AreAlike vs b c
alike_right us vs b c h v e = h v (any_append (λ w. w == v) us vs ∙ or_right (names us v) (names vs v) e)

side_alike : (t : Term) (more : List Term) (b c : Binding Value) → AreAlike (term_variables (t ∷ more)) b c → side_value t b ≡ side_value t c
side_alike (term.Constant x) more b c h = refl
side_alike (term.Variable v) more b c h = h v (ap (λ t. t || names (term_variables more) v) (nat_eq_self v))

more_alike : (t : Term) (more : List Term) (b c : Binding Value) → AreAlike (term_variables (t ∷ more)) b c → AreAlike (term_variables more) b c
more_alike (term.Constant x) more b c h = h
more_alike (term.Variable u) more b c h = alike_right (u ∷ []) (term_variables more) b c h

holds_alike : (k : Comparison) (b c : Binding Value) → AreAlike (term_variables (k.left ∷ k.right ∷ [])) b c → holds_in k b ≡ holds_in k c
holds_alike k b c h = ap₂ (λ x y. both_compare k.op x y) (side_alike k.left (k.right ∷ []) b c h) (side_alike k.right [] b c (more_alike k.left (k.right ∷ []) b c h))

pub reads_comparisons : (cs : List Comparison) → ReadsOnly (comparison_variables cs) (all_hold cs)
reads_comparisons [] b c h = refl
reads_comparisons (k ∷ cs) b c h = ap₂ (λ s t. s && t)
    (holds_alike k b c (alike_left (term_variables (k.left ∷ k.right ∷ [])) (comparison_variables cs) b c h))
    (reads_comparisons cs b c (alike_right (term_variables (k.left ∷ k.right ∷ [])) (comparison_variables cs) b c h))
