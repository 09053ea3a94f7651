-- Comparisons of what a row binds.
use Rattle.std.specs.Prelude.{ℕ, Bool, false, List, [], ◌∷◌, flat_map, Option, Some, None}
use Rattle.std.specs.List.{list_all}
use Rattle.answer_theory.specs.Bindings.{Binding, value_of}
use Rattle.tuple_core.specs.Comparing.{compares}
use Rattle.tuple_core.specs.declared.comparing.Op.{Op}
use Rattle.tuple_core.specs.declared.value.Value.{Value}
use Rattle.row_match.specs.Patterns.{term_variables}
use Rattle.row_match.specs.declared.filter.Comparison.{Comparison}
use Rattle.row_match.specs.declared.pattern.Term.{Term}
use Rattle.row_match.specs.declared.pattern.Term.TheVariants as term

-- a filter's variables and its comparisons
pub record Test : Type 0 where
  pub vars : List ℕ
  pub comparisons : List Comparison

-- the value itself, or that of the variable
abbrev pub side_value : Term → Binding Value → Option Value
side_value (term.Constant c) b = Some c
side_value (term.Variable v) b = value_of b v

-- both sides have a value, and the operator holds between these
abbrev pub both_compare : Op → Option Value → Option Value → Bool
both_compare op None y = false
both_compare op (Some x) None = false
both_compare op (Some x) (Some y) = compares op x y

abbrev pub holds_in : Comparison → Binding Value → Bool
holds_in c b = both_compare c.op (side_value c.left b) (side_value c.right b)

abbrev pub all_hold : List Comparison → Binding Value → Bool
all_hold cs b = list_all (λ c. holds_in c b) cs

-- the variables that comparisons read
abbrev pub comparison_variables : List Comparison → List ℕ
comparison_variables cs = flat_map (λ c. term_variables (c.left ∷ c.right ∷ [])) cs
