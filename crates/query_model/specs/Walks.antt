-- What is left of a walk by nested choice, once rows of the first atoms are chosen.
use Rattle.std.specs.Prelude.{◌≡◌, ℕ, ◌==◌, Bool, true, not, ◌&&◌, ◌||◌, List, ◌++◌, map}
use Rattle.std.specs.List.{list_all, AllByRecursion}
use Rattle.answer_theory.specs.Bindings.{Binding, consistent}
use Rattle.answer_theory.specs.Choices.{solutions_from}
use Rattle.tuple_core.specs.Encoded.{value_seen}
use Rattle.tuple_core.specs.Values.{FitsValue}
use Rattle.tuple_core.specs.declared.value.Value.{Value}
use Rattle.row_match.specs.Filters.{all_hold}
use Rattle.row_match.specs.Patterns.{fits, entries_of, values_join}
use Rattle.row_match.specs.declared.pattern.Term.{Term}
use Rattle.query_core.specs.Answers.{Item, item_fits, item_entries, head_row}
use Rattle.query_core.specs.declared.query.Query.{Query}
use Rattle.query_model.specs.declared.entries.Entry.{Entry}

-- what the entries bind
abbrev pub binding_of : List Entry → Binding Value
binding_of entries = map (λ p. (p.variable, value_seen p.value)) entries

-- the entry is another variable's, or its value joins
abbrev pub entry_agrees : Entry → ℕ → Value → Bool
entry_agrees p v x = not (p.variable == v) || values_join (value_seen p.value) x

abbrev pub entries_agree : List Entry → ℕ → Value → Bool
entries_agree entries v x = list_all (λ p. entry_agrees p v x) entries

-- the row has the terms' constants, and its variables' values agree with each other and with what is bound
abbrev pub agrees_with : Binding Value → List Term → List Value → Bool
agrees_with b terms row = fits terms row && consistent values_join (b ++ entries_of terms row)

-- what rows that agree bind: values within their limits
pub record AreBound (b : Binding Value) : Type 0 where
  pub agree : consistent values_join b ≡ true
  pub fit : AllByRecursion (λ p. FitsValue p.1) b

-- the heads of the choices that begin with rows that bind these entries
abbrev pub heads_from : Query → Binding Value → List (List Item) → List (List Value)
heads_from query b lists = map (head_row query.head) (solutions_from values_join item_fits item_entries (all_hold query.comparisons) b lists)
