-- What an answer is, over the rows that came for each atom: rows that agree, choices, heads, the answer.
use Rattle.std.specs.Prelude.{ℕ, Bool, ◌&&◌, List, [], ◌∷◌, map, filter, flat_map}
use Rattle.std.specs.List.{list_all, filter_map}
use Rattle.std.specs.declared.cmp.Ordering.TheVariants.{Less, Equal, Greater}
use Rattle.answer_theory.specs.Bindings.{Binding, consistent, first_entries, value_of}
use Rattle.answer_theory.specs.Choices.{fitting_rows, index_lists, items_at}
use Rattle.answer_theory.specs.Solutions.{solutions}
use Rattle.tuple_core.specs.RowText.{rows_text}
use Rattle.med_prelude.specs.Texts.{Bytes}
use Rattle.tuple_core.specs.Values.{RowList, RowValues, row_cmp}
use Rattle.tuple_core.specs.declared.value.Value.{Value}
use Rattle.row_match.specs.Filters.{all_hold}
use Rattle.row_match.specs.Patterns.{fits, entries_of, values_join}
use Rattle.row_match.specs.declared.filter.Comparison.{Comparison}
use Rattle.row_match.specs.declared.pattern.Term.{Term}
use Rattle.query_core.specs.declared.query.Atom.{Atom}
use Rattle.query_core.specs.declared.query.Query.{Query}

-- a row, with the terms of the atom that it came for
abbrev pub Item : Type 0
Item = List Term × RowValues

-- each constant of the atom is its column's value
abbrev pub item_fits : Item → Bool
item_fits item = fits item.0 item.1

-- each variable of the atom, with its column's value
abbrev pub item_entries : Item → Binding Value
item_entries item = entries_of item.0 item.1

-- the entries of each row, one row after another
abbrev pub all_entries : List Item → Binding Value
all_entries rows = flat_map item_entries rows

-- Rows, one for each atom, agree: each constant is its column's value, each variable has one value wherever it stands,
-- and each comparison holds of these values.
abbrev pub agrees : List Item → List Comparison → Bool
agrees rows comparisons = list_all item_fits rows && (consistent values_join (all_entries rows) && all_hold comparisons (first_entries (all_entries rows)))

-- the rows that came for an atom, each with the atom's terms
abbrev pub items_of : Atom → RowList → List Item
items_of atom rows = map (λ row. (atom.terms, row)) rows

-- the rows that came for each atom; an atom without a list has none
abbrev pub items : List Atom → List RowList → List (List Item)
items [] arrivals = []
items (atom ∷ atoms) [] = [] ∷ items atoms []
items (atom ∷ atoms) (rows ∷ arrivals) = items_of atom rows ∷ items atoms arrivals

-- the rows of a choice: one of each atom, by its index among those that came for the atom
abbrev pub rows_at : List Atom → List RowList → List ℕ → List Item
rows_at atoms arrivals indices = items_at (items atoms arrivals) indices

-- The choices: the lists of indices, one for each atom, whose rows agree.
abbrev pub choices : List Atom → List Comparison → List RowList → List (List ℕ)
choices atoms comparisons arrivals = filter (λ indices. agrees (rows_at atoms arrivals indices) comparisons) (index_lists (items atoms arrivals))

-- what the rows of a choice bind, each variable once
abbrev pub binding_at : List Atom → List RowList → List ℕ → Binding Value
binding_at atoms arrivals indices = first_entries (all_entries (rows_at atoms arrivals indices))

-- the values of the head's variables
abbrev pub head_row : List ℕ → Binding Value → RowValues
head_row head binding = filter_map (value_of binding) head

-- the head's values over each choice
abbrev pub heads : List ℕ → List Atom → List Comparison → List RowList → RowList
heads head atoms comparisons arrivals = map (λ indices. head_row head (binding_at atoms arrivals indices)) (choices atoms comparisons arrivals)

-- rows in order with one more, unless it stands there already
abbrev pub rows_with : RowValues → RowList → RowList
rows_with row [] = row ∷ []
rows_with row (other ∷ rows) = elim (row_cmp row other) [
  | Less ↦ row ∷ other ∷ rows
  | Equal ↦ other ∷ rows
  | Greater ↦ other ∷ rows_with row rows
]

-- the rows in their order, each once
abbrev pub ordered_rows : RowList → RowList
ordered_rows [] = []
ordered_rows (row ∷ rows) = rows_with row (ordered_rows rows)

-- The answer: the distinct heads of the choices, in their order.
abbrev pub answer : List ℕ → List Atom → List Comparison → List RowList → RowList
answer head atoms comparisons arrivals = ordered_rows (heads head atoms comparisons arrivals)

-- the answer of a whole query
abbrev pub answer_of : Query → List RowList → RowList
answer_of query arrivals = answer query.head query.atoms query.comparisons arrivals

-- its text: a line of CSV for each row
abbrev pub answer_text : Query → List RowList → Bytes
answer_text query arrivals = rows_text (answer_of query arrivals)

-- an atom as a leaf of joins: what each of its rows binds, where the atom's constants are the row's
abbrev pub leaf_of : Atom → RowList → List (Binding Value)
leaf_of atom rows = fitting_rows item_fits item_entries (items_of atom rows)

-- the leaves of all atoms
abbrev pub leaf_rows : List Atom → List RowList → List (List (Binding Value))
leaf_rows atoms arrivals = map (fitting_rows item_fits item_entries) (items atoms arrivals)

-- what the choices bind, as joins find it: one row of each leaf, in each way, where these agree
abbrev pub solutions_of : List Atom → List Comparison → List RowList → List (Binding Value)
solutions_of atoms comparisons arrivals = solutions values_join (all_hold comparisons) (leaf_rows atoms arrivals)
