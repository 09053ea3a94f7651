-- Steps of a collector one after another, and what an atom gives as a leaf of joins.
use Rattle.std.proofs.Common.{◌≡◌, ℕ, Bool, true, false, cond, List, [], ◌∷◌, ◌++◌, length, map, filter, flat_map, Option, Some, None, refl, sym, ap, ◌∙◌, append_assoc, append-nil}
use Rattle.std.proofs.lemmas.List.Elements.{All-from_recursion}
use Rattle.std.specs.List.{AllByRecursion, AllZip, cons_option, filter_map}
use Rattle.std.specs.Prelude.{option_and_then}
use Rattle.answer_theory.specs.Bindings.{Binding}
use Rattle.answer_theory.specs.Rows.{over}
use Rattle.answer_theory.specs.Solutions.{chosen_rows, only}
use Rattle.answer_theory.proofs.Bags.{bag_append, bag_from_same, bag_refl, bag_trans}
use Rattle.tuple_core.specs.Values.{RowList, RowValues}
use Rattle.tuple_core.specs.declared.value.Value.{Value}
use Rattle.row_match.specs.Filters.{all_hold}
use Rattle.row_match.specs.Patterns.{entries_of, fits, matched_row, pattern_variables, values_join}
use Rattle.row_match.proofs.Leaves.{matched_width, rows_chosen}
use Rattle.collect_core.specs.Selecting.{Select, passes, selected_row, selected_rows}
use Rattle.collect_core.specs.Steps.{CollectorStep, GrewTo, given_rows}
use Rattle.collect_core.proofs.Places.{filter_map_append}

-- ---- steps

none_grew : (s : List RowList) → AllZip GrewTo s s
none_grew [] = tt
none_grew (rows ∷ s) = (([], sym (append-nil rows)), none_grew s)

pub step_none : (select : Select) (s : List RowList) → CollectorStep select s s []
step_none select s = record { grew = none_grew s; given = bag_from_same (sym (append-nil (given_rows select s))) }

grew_on : (s t u : List RowList) → AllZip GrewTo s t → AllZip GrewTo t u → AllZip GrewTo s u
grew_on [] [] [] h k = tt
grew_on [] [] (c ∷ u) h k = absurd k
grew_on [] (b ∷ t) u h k = absurd h
grew_on (a ∷ s) [] u h k = absurd h
grew_on (a ∷ s) (b ∷ t) [] h k = absurd k
grew_on (a ∷ s) (b ∷ t) (c ∷ u) h k =
    ((h.0.0 ++ k.0.0, k.0.1 ∙ ap (λ rows. rows ++ k.0.0) h.0.1 ∙ append_assoc a h.0.0 k.0.0), grew_on s t u h.1 k.1)

pub step_then : (select : Select) (s t u : List RowList) (gave more : RowList) → CollectorStep select s t gave → CollectorStep select t u more → CollectorStep select s u (gave ++ more)
step_then select s t u gave more h k = record {
  grew = grew_on s t u h.grew k.grew;
  given = bag_trans k.given (bag_trans (bag_append h.given (bag_refl more)) (bag_from_same (append_assoc (given_rows select s) gave more)));
}

-- ---- leaves

pub given_together : (select : Select) (accepted : List RowList) → given_rows select accepted ≡ selected_rows select (flat_map (λ rows. rows) accepted)
given_together select [] = refl
given_together select (rows ∷ accepted) =
    ap (λ more. selected_rows select rows ++ more) (given_together select accepted) ∙ sym (filter_map_append (selected_row select) rows (flat_map (λ rs. rs) accepted))

module _ (select : Select) where
  abbrev vars : List ℕ
  vars = pattern_variables select.terms

  abbrev test : Binding Value → Bool
  test = all_hold select.comparisons

  kept_one : (t : Bool) (values : RowValues) (xs : RowList) (ys : List (Binding Value)) → map (over vars) xs ≡ ys
      → map (over vars) (cons_option (cond t (Some values) None) xs) ≡ cond t (over vars values ∷ ys) ys
  kept_one true values xs ys e = ap (λ more. over vars values ∷ more) e
  kept_one false values xs ys e = e

  kept_more : (matched : Option RowValues) (xs ys : RowList) → map (over vars) xs ≡ filter test (map (over vars) ys)
      → map (over vars) (cons_option (option_and_then (λ values. cond (passes select values) (Some values) None) matched) xs) ≡ filter test (map (over vars) (cons_option matched ys))
  kept_more None xs ys e = e
  kept_more (Some values) xs ys e = kept_one (test (over vars values)) values xs (filter test (map (over vars) ys)) e

  kept_rows : (rows : RowList) → map (over vars) (selected_rows select rows) ≡ filter test (map (over vars) (filter_map (matched_row select.terms) rows))
  kept_rows [] = refl
  kept_rows (row ∷ rows) = kept_more (matched_row select.terms row) (selected_rows select rows) (filter_map (matched_row select.terms) rows) (kept_rows rows)

  pub leaf_given : (rows : RowList) → AllByRecursion (λ row. length row ≡ length select.terms) rows
      → map (over vars) (selected_rows select rows) ≡ chosen_rows values_join test (flat_map (λ row. only (fits select.terms row) (entries_of select.terms row)) rows)
  leaf_given rows wide = kept_rows rows ∙ sym (rows_chosen test select.terms rows (All-from_recursion (λ row. length row ≡ length select.terms) rows wide))

  wide_one : (t : Bool) (values : RowValues) (xs : RowList) → length values ≡ length vars → AllByRecursion (λ vs. length vs ≡ length vars) xs
      → AllByRecursion (λ vs. length vs ≡ length vars) (cons_option (cond t (Some values) None) xs)
  wide_one true values xs w h = (w, h)
  wide_one false values xs w h = h

  wide_more : (matched : Option RowValues) (xs : RowList) → ((values : RowValues) → matched ≡ Some values → length values ≡ length vars) → AllByRecursion (λ vs. length vs ≡ length vars) xs
      → AllByRecursion (λ vs. length vs ≡ length vars) (cons_option (option_and_then (λ values. cond (passes select values) (Some values) None) matched) xs)
  wide_more None xs w h = h
  wide_more (Some values) xs w h = wide_one (passes select values) values xs (w values refl) h

  pub given_width : (rows : RowList) → AllByRecursion (λ row. length row ≡ length select.terms) rows → AllByRecursion (λ values. length values ≡ length vars) (selected_rows select rows)
  given_width [] wide = tt
  given_width (row ∷ rows) wide =
      wide_more (matched_row select.terms row) (selected_rows select rows) (λ values e. matched_width select.terms row values wide.0 e) (given_width rows wide.1)
