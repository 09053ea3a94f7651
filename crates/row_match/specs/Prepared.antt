-- What a pattern keeps beside its terms, and how a row's values are taken one after another.
use Rattle.std.specs.Prelude.{◌≡◌, ℕ, cond, List, [], ◌∷◌, ◌++◌, map, Option, Some, None, slice_get}
use Rattle.answer_theory.specs.Rows.{both_join}
use Rattle.tuple_core.specs.Values.{RowValues}
use Rattle.tuple_core.specs.declared.value.Value.{Value}
use Rattle.row_match.specs.Patterns.{position_of, values_join, pattern_variables}
use Rattle.row_match.specs.declared.pattern.ColumnTerm.{ColumnTerm}
use Rattle.row_match.specs.declared.pattern.Term.{Term}
use Rattle.row_match.specs.declared.pattern.Term.TheVariants as term

abbrev pub position_for : List ℕ → Term → Option ℕ
position_for us (term.Constant c) = None
position_for us (term.Variable v) = position_of us v

-- the variables with one more, unless it stands there already
abbrev pub variables_with : List ℕ → ℕ → Option ℕ → List ℕ
variables_with us v None = us ++ v ∷ []
variables_with us v (Some position) = us

abbrev pub variables_with_term : List ℕ → Term → List ℕ
variables_with_term us (term.Constant c) = us
variables_with_term us (term.Variable v) = variables_with us v (position_of us v)

-- the terms with their positions, after variables that stood before
abbrev pub prepared_columns : List ℕ → List Term → List ColumnTerm
prepared_columns us [] = []
prepared_columns us (t ∷ ts) = record { term = t; position = position_for us t } ∷ prepared_columns (variables_with_term us t) ts

abbrev pub terms_of : List ColumnTerm → List Term
terms_of columns = map (λ c. c.term) columns

abbrev pub variables_after : List ℕ → List Term → List ℕ
variables_after us [] = us
variables_after us (t ∷ ts) = variables_after (variables_with_term us t) ts

pub record IsPrepared (columns : List ColumnTerm) (variables : List ℕ) : Type 0 where
  pub positions : columns ≡ prepared_columns [] (terms_of columns)
  pub named : variables ≡ pattern_variables (terms_of columns)

abbrev pub kept_after_term : Term → Option ℕ → Value → RowValues → Option RowValues
kept_after_term (term.Constant c) position x kept = cond (values_join x c) (Some kept) None
kept_after_term (term.Variable v) None x kept = Some (kept ++ x ∷ [])
kept_after_term (term.Variable v) (Some position) x kept = cond (both_join values_join (Some x) (slice_get kept position)) (Some kept) None

-- the kept values after one more column, where it agrees
abbrev pub kept_after : ColumnTerm → Value → RowValues → Option RowValues
kept_after column x kept = kept_after_term column.term column.position x kept
