-- What a row binds of an atom's variables.
use Rattle.std.specs.Prelude.{ℕ, ◌≤◌, Bool, true, cond, ◌==◌, ◌&&◌, List, [], ◌∷◌, length, Option, Some, None}
use Rattle.std.specs.List.{position}
use Rattle.answer_theory.specs.Bindings.{Binding, consistent, first_entries}
use Rattle.answer_theory.specs.Rows.{values, first_occurrences, AreDistinct}
use Rattle.tuple_core.specs.Order.{value_eq}
use Rattle.tuple_core.specs.Values.{RowValues}
use Rattle.tuple_core.specs.declared.value.Value.{Value}
use Rattle.row_match.specs.declared.pattern.Term.{Term}
use Rattle.row_match.specs.declared.pattern.Term.TheVariants as term

-- the most variables that a row is over
abbrev pub most_variables : ℕ
most_variables = 64

-- at most so many variables, each once
pub record FitsVars (vs : List ℕ) : Type 0 where
  pub distinct : AreDistinct vs
  pub short : length vs ≤ most_variables

-- where the variable stands
abbrev pub position_of : List ℕ → ℕ → Option ℕ
position_of us v = position (λ u. u == v) us

-- two values join where they are equal
abbrev pub values_join : Value → Value → Bool
values_join = value_eq

-- each constant joins with its column's value
abbrev pub fits : List Term → RowValues → Bool
fits [] row = true
fits (t ∷ ts) [] = true
fits (term.Constant c ∷ ts) (x ∷ row) = values_join x c && fits ts row
fits (term.Variable v ∷ ts) (x ∷ row) = fits ts row

-- each variable with its column's value
abbrev pub entries_of : List Term → RowValues → Binding Value
entries_of [] row = []
entries_of (t ∷ ts) [] = []
entries_of (term.Constant c ∷ ts) (x ∷ row) = entries_of ts row
entries_of (term.Variable v ∷ ts) (x ∷ row) = (v, x) ∷ entries_of ts row

abbrev pub term_variables : List Term → List ℕ
term_variables [] = []
term_variables (term.Constant c ∷ ts) = term_variables ts
term_variables (term.Variable v ∷ ts) = v ∷ term_variables ts

-- the variables in the order of their first occurrence
abbrev pub pattern_variables : List Term → List ℕ
pattern_variables terms = first_occurrences (term_variables terms)

-- The values of the variables, where each constant fits and each two entries of one variable agree.
abbrev pub matched_row : List Term → RowValues → Option RowValues
matched_row terms row = cond (fits terms row && consistent values_join (entries_of terms row)) (Some (values (first_entries (entries_of terms row)))) None
