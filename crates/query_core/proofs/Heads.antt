-- Heads and the solutions that they are of; the leaves that these are over.
use Rattle.std.proofs.Common.{◌≡◌, ℕ, Bool, List, All, length, map, filter, flat_map, Option, sym, ap, subst, ◌∙◌, refl}
use Rattle.std.specs.List.{filter_map}
use Rattle.answer_theory.specs.Bags.{SameBag}
use Rattle.answer_theory.specs.Bindings.{Binding, value_of}
use Rattle.answer_theory.specs.Rows.{over}
use Rattle.answer_theory.specs.Solutions.{only, chosen_rows, valuations, Binds}
use Rattle.answer_theory.proofs.Bags.{bag_map, bag_sym, bag_trans, bag_from_same}
use Rattle.answer_theory.proofs.Choices.{choices_solutions}
use Rattle.answer_theory.proofs.Lists.{map_map, flat_map_map}
use Rattle.answer_theory.proofs.Numbers.{bag_contains}
use Rattle.row_match.specs.Filters.{all_hold}
use Rattle.row_match.specs.Patterns.{entries_of, fits, matched_row, pattern_variables, values_join}
use Rattle.row_match.proofs.Leaves.{leaf_binds, rows_chosen}
use Rattle.row_match.specs.declared.filter.Comparison.{Comparison}
use Rattle.tuple_core.specs.Distinct.{AreSortedDistinct}
use Rattle.tuple_core.specs.Order.{row_eq, rows_decided}
use Rattle.tuple_core.specs.Values.{RowList, RowValues}
use Rattle.tuple_core.specs.declared.value.Value.{Value}
use Rattle.query_core.specs.Answers.{Item, item_fits, item_entries, items, leaf_of, choices, binding_at, head_row, heads, ordered_rows, solutions_of}
use Rattle.query_core.specs.declared.query.Atom.{Atom}
use Rattle.query_core.proofs.Sorting.{only_sorted_rows}

pub bindings_solutions : (atoms : List Atom) (comparisons : List Comparison) (arrivals : List RowList)
    → map (binding_at atoms arrivals) (choices atoms comparisons arrivals) ≡ solutions_of atoms comparisons arrivals
bindings_solutions atoms comparisons arrivals = choices_solutions values_join item_fits item_entries (all_hold comparisons) (items atoms arrivals)

pub heads_solutions : (head : List ℕ) (atoms : List Atom) (comparisons : List Comparison) (arrivals : List RowList)
    → heads head atoms comparisons arrivals ≡ map (head_row head) (solutions_of atoms comparisons arrivals)
heads_solutions head atoms comparisons arrivals =
    sym (map_map (head_row head) (binding_at atoms arrivals) (choices atoms comparisons arrivals))
    ∙ ap (map (head_row head)) (bindings_solutions atoms comparisons arrivals)

-- the head of what a row says of each variable
abbrev head_of_values : List ℕ → (ℕ → Option Value) → RowValues
head_of_values head value = filter_map value head

pub same_heads : (head : List ℕ) (found solved : List (Binding Value)) → SameBag (valuations found) (valuations solved) → SameBag (map (head_row head) found) (map (head_row head) solved)
same_heads head found solved h = bag_trans
    (bag_from_same (sym (map_map (head_of_values head) value_of found)))
    (bag_trans (bag_map (head_of_values head) h) (bag_from_same (map_map (head_of_values head) value_of solved)))

-- the same bag of rows has one list of its distinct rows in order
pub same_order : (xs ys sorted : RowList) → SameBag xs ys → AreSortedDistinct xs sorted → sorted ≡ ordered_rows ys
same_order xs ys sorted same h = only_sorted_rows ys sorted (record {
  ascending = h.ascending;
  keeps = λ row i. h.keeps row (bag_contains row_eq (λ x y. (rows_decided x y).0) (λ x. (rows_decided x x).1 refl) (bag_sym same) row i);
  adds_none = λ row i. bag_contains row_eq (λ x y. (rows_decided x y).0) (λ x. (rows_decided x x).1 refl) same row (h.adds_none row i);
})

-- ---- leaves

leaf_by_row : (atom : Atom) (rows : RowList) → leaf_of atom rows ≡ flat_map (λ row. only (fits atom.terms row) (entries_of atom.terms row)) rows
leaf_by_row atom rows = flat_map_map (λ item. only (item_fits item) (item_entries item)) (λ row. pair atom row) rows
  where
    pair : Atom → RowValues → Item
    pair a row = (a.terms, row)

pub leaf_binds_variables : (atom : Atom) (rows : RowList) → All (λ row. length row ≡ length atom.terms) rows → All (Binds (pattern_variables atom.terms)) (leaf_of atom rows)
leaf_binds_variables atom rows h = subst (All (Binds (pattern_variables atom.terms))) (sym (leaf_by_row atom rows)) (leaf_binds atom.terms rows h)

pub leaf_gives : (test : Binding Value → Bool) (atom : Atom) (rows : RowList) → All (λ row. length row ≡ length atom.terms) rows
    → chosen_rows values_join test (leaf_of atom rows) ≡ filter test (map (over (pattern_variables atom.terms)) (filter_map (matched_row atom.terms) rows))
leaf_gives test atom rows h = ap (chosen_rows values_join test) (leaf_by_row atom rows) ∙ rows_chosen test atom.terms rows h
