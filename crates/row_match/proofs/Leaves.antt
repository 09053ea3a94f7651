-- What matched rows bind, and what an atom gives to joins as a leaf.
use Rattle.std.proofs.Common.{◌≡◌, ℕ, suc, Bool, true, false, cond, ◌&&◌, List, [], ◌∷◌, ◌++◌, All, append-nil, map, filter, flat_map, length, Option, Some, None, refl, sym, ap, ap₂, ◌∙◌, arith}
use Rattle.std.specs.List.{cons_option, filter_map, AllByRecursion}
use Rattle.std.specs.Option.{is_some}
use Rattle.std.proofs.lemmas.Bool.{false≢true}
use Rattle.std.proofs.lemmas.List.{length-map}
use Rattle.std.proofs.lemmas.List.Elements.{All-from_recursion, recursion_from_All}
use Rattle.answer_theory.specs.Bindings.{Binding, has_entry, consistent, first_entries}
use Rattle.answer_theory.specs.Solutions.{only, chosen_rows, names, Binds}
use Rattle.answer_theory.specs.Trees.{IsRowOf}
use Rattle.answer_theory.specs.Rows.{over, values, binding_variables, first_occurrences}
use Rattle.answer_theory.proofs.Held.{bound_named, occurrences_named}
use Rattle.answer_theory.proofs.Lists.{each_append, flat_map_append}
use Rattle.answer_theory.proofs.Rows.{over_named, over_is_row, named_first_entries, each_once_distinct}
use Rattle.tuple_core.specs.Values.{RowValues}
use Rattle.tuple_core.specs.declared.value.Value.{Value}
use Rattle.row_match.specs.Patterns.{fits, matched_row, entries_of, pattern_variables, term_variables, values_join}
use Rattle.row_match.specs.declared.pattern.Term.{Term}
use Rattle.row_match.specs.declared.pattern.Term.TheVariants as term

-- ---- matched rows

entries_named : (ts : List Term) (row : List Value) → length row ≡ length ts → binding_variables (entries_of ts row) ≡ term_variables ts
entries_named [] row e = refl
entries_named (t ∷ ts) [] e = absurd (let d : 0 ≡ suc (length ts) = e in omega (arith, d))
entries_named (term.Constant c ∷ ts) (x ∷ row) e = entries_named ts row (let d : suc (length row) ≡ suc (length ts) = e in omega (arith, d))
entries_named (term.Variable v ∷ ts) (x ∷ row) e = ap (λ l. v ∷ l) (entries_named ts row (let d : suc (length row) ≡ suc (length ts) = e in omega (arith, d)))

where_some : (t : Bool) (out r : List Value) → cond t (Some out) None ≡ Some r → out ≡ r
where_some true out r e = cc e
where_some false out r e = absurd (false≢true (ap is_some e))

pub matched_binds : (ts : List Term) (row r : List Value) → length row ≡ length ts → matched_row ts row ≡ Some r → over (pattern_variables ts) r ≡ first_entries (entries_of ts row)
matched_binds ts row r e m =
    ap₂ over (ap first_occurrences (sym (entries_named ts row e)) ∙ sym (named_first_entries (entries_of ts row))) (sym (where_some (fits ts row && consistent values_join (entries_of ts row)) (values (first_entries (entries_of ts row))) r m))
    ∙ over_named (first_entries (entries_of ts row))

pub matched_width : (ts : List Term) (row r : List Value) → length row ≡ length ts → matched_row ts row ≡ Some r → length r ≡ length (pattern_variables ts)
matched_width ts row r e m =
    let kept : Binding Value = first_entries (entries_of ts row) in
    ap length (sym (where_some (fits ts row && consistent values_join (entries_of ts row)) (values kept) r m))
    ∙ length-map kept (λ p. p.1) ∙ sym (length-map kept (λ p. p.0))
    ∙ ap length (named_first_entries (entries_of ts row) ∙ ap first_occurrences (entries_named ts row e))

abbrev kept_entries : List Term → RowValues → Binding Value
kept_entries ts row = first_entries (entries_of ts row)

over_kept : (ts : List Term) (row : RowValues) → length row ≡ length ts → over (pattern_variables ts) (values (kept_entries ts row)) ≡ kept_entries ts row
over_kept ts row e =
    ap (λ vs. over vs (values (kept_entries ts row))) (ap first_occurrences (sym (entries_named ts row e)) ∙ sym (named_first_entries (entries_of ts row)))
    ∙ over_named (kept_entries ts row)

pub entries_bind : (ts : List Term) (row : RowValues) → length row ≡ length ts → (v : ℕ) → has_entry (entries_of ts row) v ≡ names (pattern_variables ts) v
entries_bind ts row e v = bound_named (entries_of ts row) v ∙ (ap (λ vs. names vs v) (entries_named ts row e) ∙ sym (occurrences_named (term_variables ts) v))

pub matched_is_row : (ts : List Term) (row r : RowValues) → length row ≡ length ts → matched_row ts row ≡ Some r → IsRowOf (pattern_variables ts) (over (pattern_variables ts) r)
matched_is_row ts row r e m = over_is_row (pattern_variables ts) r (each_once_distinct (term_variables ts)) (matched_width ts row r e m)

-- ---- what a leaf of joins gives

module _ (test : Binding Value → Bool) where
  chosen_one : (fit : Bool) (b : Binding Value) → chosen_rows values_join test (only fit b) ≡ only (fit && (consistent values_join b && test (first_entries b))) (first_entries b)
  chosen_one true b = append-nil _
  chosen_one false b = refl

  -- the rows over the variables that pass the test
  abbrev passing : List ℕ → List RowValues → List (Binding Value)
  passing vs rows = filter test (map (over vs) rows)

  matched_one : (vs : List ℕ) (fit agree : Bool) (kept : Binding Value) → over vs (values kept) ≡ kept
      → only (fit && (agree && test kept)) kept ≡ passing vs (cons_option (cond (fit && agree) (Some (values kept)) None) [])
  matched_one vs true true kept e = ap (λ b. only (test b) b) (sym e)
  matched_one vs true false kept e = refl
  matched_one vs false agree kept e = refl

  pub row_chosen : (ts : List Term) (row : RowValues) → length row ≡ length ts
      → chosen_rows values_join test (only (fits ts row) (entries_of ts row)) ≡ passing (pattern_variables ts) (cons_option (matched_row ts row) [])
  row_chosen ts row e = chosen_one (fits ts row) (entries_of ts row)
      ∙ matched_one (pattern_variables ts) (fits ts row) (consistent values_join (entries_of ts row)) (kept_entries ts row) (over_kept ts row e)

  passing_more : (vs : List ℕ) (o : Option RowValues) (rows : List RowValues) → passing vs (cons_option o rows) ≡ passing vs (cons_option o []) ++ passing vs rows
  passing_more vs None rows = refl
  passing_more vs (Some r) rows = go (test (over vs r))
    where
      go : (t : Bool) → cond t (over vs r ∷ passing vs rows) (passing vs rows) ≡ cond t (over vs r ∷ []) [] ++ passing vs rows
      go true = refl
      go false = refl

  chosen_each : (ts : List Term) (rows : List RowValues) → AllByRecursion (λ row. length row ≡ length ts) rows
      → chosen_rows values_join test (flat_map (λ row. only (fits ts row) (entries_of ts row)) rows) ≡ passing (pattern_variables ts) (filter_map (matched_row ts) rows)
  chosen_each ts [] h = refl
  chosen_each ts (row ∷ rows) h =
      flat_map_append (λ b. only (consistent values_join b && test (first_entries b)) (first_entries b)) (only (fits ts row) (entries_of ts row)) (flat_map (λ r. only (fits ts r) (entries_of ts r)) rows)
      ∙ (ap₂ (λ l r. l ++ r) (row_chosen ts row h.0) (chosen_each ts rows h.1)
      ∙ sym (passing_more (pattern_variables ts) (matched_row ts row) (filter_map (matched_row ts) rows)))

  pub rows_chosen : (ts : List Term) (rows : List RowValues) → All (λ row. length row ≡ length ts) rows
      → chosen_rows values_join test (flat_map (λ row. only (fits ts row) (entries_of ts row)) rows) ≡ passing (pattern_variables ts) (filter_map (matched_row ts) rows)
  rows_chosen ts rows h = chosen_each ts rows (recursion_from_All _ rows h)

each_binds : (ts : List Term) (rows : List RowValues) → AllByRecursion (λ row. length row ≡ length ts) rows
    → AllByRecursion (Binds (pattern_variables ts)) (flat_map (λ row. only (fits ts row) (entries_of ts row)) rows)
each_binds ts [] h = tt
each_binds ts (row ∷ rows) h = each_append (Binds (pattern_variables ts)) (only (fits ts row) (entries_of ts row)) _ (one (fits ts row)) (each_binds ts rows h.1)
  where
    one : (t : Bool) → AllByRecursion (Binds (pattern_variables ts)) (only t (entries_of ts row))
    one true = ((λ v named. entries_bind ts row h.0 v ∙ named), tt)
    one false = tt

pub leaf_binds : (ts : List Term) (rows : List RowValues) → All (λ row. length row ≡ length ts) rows
    → All (Binds (pattern_variables ts)) (flat_map (λ row. only (fits ts row) (entries_of ts row)) rows)
leaf_binds ts rows h = All-from_recursion _ _ (each_binds ts rows (recursion_from_All _ rows h))
