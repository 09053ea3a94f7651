-- Which rows an atom selects, and what it gives of them.
use Rattle.std.specs.Prelude.{Bool, List, Option, Some, None, cond, option_and_then}
use Rattle.std.specs.List.{filter_map}
use Rattle.answer_theory.specs.Rows.{over}
use Rattle.tuple_core.specs.Values.{RowList, RowValues}
use Rattle.row_match.specs.Filters.{all_hold}
use Rattle.row_match.specs.Patterns.{matched_row, pattern_variables}
use Rattle.row_match.specs.declared.filter.Comparison.{Comparison}
use Rattle.row_match.specs.declared.pattern.Term.{Term}

-- an atom's terms, one for each column, and the comparisons that are placed at it
pub record Select : Type 0 where
  pub terms : List Term
  pub comparisons : List Comparison

-- each comparison holds of the values of the atom's variables
abbrev pub passes : Select → RowValues → Bool
passes s values = all_hold s.comparisons (over (pattern_variables s.terms) values)

-- the row's values of the atom's variables, where the row matches and each comparison holds
abbrev pub selected_row : Select → RowValues → Option RowValues
selected_row s row = option_and_then (λ values. cond (passes s values) (Some values) None) (matched_row s.terms row)

-- what the atom gives of these rows, in their order
abbrev pub selected_rows : Select → RowList → RowList
selected_rows s rows = filter_map (selected_row s) rows
