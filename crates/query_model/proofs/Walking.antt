-- A walk by nested choice: where it ends, how it goes on, and that it stops where the rows don't agree.
use Rattle.std.proofs.Common.{◌≡◌, ℕ, Bool, true, false, cond, ◌&&◌, List, [], ◌∷◌, ◌++◌, map, flat_map, length, take, refl, sym, ap, ap₂, ◌∙◌, append_assoc, append-nil, arith, Result, Ok, Err, IfOk}
use mathlib.Core.Path.{fun_ext}
use Rattle.std.proofs.lemmas.Bool.{and_parts}
use Rattle.std.proofs.lemmas.List.{length-map, take-map}
use Rattle.std.specs.List.{filter_map, AllByRecursion}
use Rattle.answer_theory.specs.Bindings.{Binding, consistent, first_entries}
use Rattle.answer_theory.specs.Solutions.{only, chosen_rows, combinations}
use Rattle.answer_theory.specs.Choices.{solutions_from, fitting_rows}
use Rattle.answer_theory.proofs.Bindings.{value_of_first_entries}
use Rattle.answer_theory.proofs.Choices.{choices_solutions, walk_begins, walk_ends, walk_goes}
use Rattle.answer_theory.proofs.Lists.{map_append, map_map, each_append}
use Rattle.answer_theory.proofs.Tests.{reads_values}
use Rattle.row_match.proofs.Reading.{reads_comparisons}
use Rattle.row_match.specs.Filters.{all_hold, comparison_variables}
use Rattle.row_match.specs.Patterns.{fits, entries_of, values_join}
use Rattle.row_match.specs.declared.pattern.Term.{Term}
use Rattle.row_match.specs.declared.pattern.Term.TheVariants as term
use Rattle.tuple_core.specs.Encoded.{value_seen}
use Rattle.tuple_core.specs.Values.{FitsValue, FitsRow}
use Rattle.tuple_core.specs.declared.value.Value.{Value}
use Rattle.query_core.specs.Answers.{Item, item_fits, item_entries, items_of, items, head_row, choices, binding_at, heads, answer_of}
use Rattle.tuple_core.specs.Distinct.{AreSortedDistinct}
use Rattle.query_core.proofs.Sorting.{only_sorted_rows}
use Rattle.query_core.specs.declared.query.Atom.{Atom}
use Rattle.query_core.specs.declared.query.Query.{Query}
use Rattle.query_model.proofs.Binding.{inconsistent}
use Rattle.query_model.specs.Walks.{agrees_with, binding_of, heads_from, AreBound}
use Rattle.query_model.specs.declared.entries.Entry.{Entry}

-- ---- where the entries don't agree already, nothing is found

none_chosen : {X : Type 0} (joins : X → X → Bool) (test : Binding X → Bool) (b : Binding X) → consistent joins b ≡ false → (rows : List (Binding X)) → chosen_rows joins test (map (λ c. b ++ c) rows) ≡ []
none_chosen joins test b e [] = refl
none_chosen joins test b e (c ∷ rows) = ap₂ (λ t l. only (t && test (first_entries (b ++ c))) (first_entries (b ++ c)) ++ l) (inconsistent joins b c e) (none_chosen joins test b e rows)

pub begun_none : {X Y : Type 0} (joins : X → X → Bool) (fits : Y → Bool) (binding : Y → Binding X) (test : Binding X → Bool) (b : Binding X) (lists : List (List Y))
    → consistent joins b ≡ false → solutions_from joins fits binding test b lists ≡ []
begun_none joins fits binding test b lists e = none_chosen joins test b e (combinations (map (fitting_rows fits binding) lists))

module _ (q : Query) where
  -- ---- the end: a row of each atom is chosen

  heads_of_one : (t : Bool) (b : Binding Value) → map (head_row q.head) (only t b) ≡ only t (head_row q.head b)
  heads_of_one true b = refl
  heads_of_one false b = refl

  head_of_first_entries : (b : Binding Value) → head_row q.head (first_entries b) ≡ head_row q.head b
  head_of_first_entries b = ap (λ f. filter_map f q.head) (fun_ext (λ v. value_of_first_entries b v))

  first_entries_hold : (b : Binding Value) → all_hold q.comparisons (first_entries b) ≡ all_hold q.comparisons b
  first_entries_hold b = reads_values (comparison_variables q.comparisons) (all_hold q.comparisons) (reads_comparisons q.comparisons) (first_entries b) b (value_of_first_entries b)

  pub heads_end : (b : Binding Value) → consistent values_join b ≡ true → heads_from q b [] ≡ only (all_hold q.comparisons b) (head_row q.head b)
  heads_end b e =
      ap (map (head_row q.head)) (walk_ends values_join item_fits item_entries (all_hold q.comparisons) b)
      ∙ (heads_of_one (consistent values_join b && all_hold q.comparisons (first_entries b)) (first_entries b)
      ∙ ap₂ only (ap₂ (λ s t. s && t) e (first_entries_hold b)) (head_of_first_entries b))

  -- ---- a row of the next atom

  pub heads_none : (b : Binding Value) (lists : List (List Item)) → heads_from q b ([] ∷ lists) ≡ []
  heads_none b lists = ap (map (head_row q.head)) (walk_goes values_join item_fits item_entries (all_hold q.comparisons) b [] lists)

  pub heads_row : (b : Binding Value) (atom : Atom) (row : List Value) (rows : List (List Value)) (lists : List (List Item))
      → heads_from q b (items_of atom (row ∷ rows) ∷ lists)
      ≡ cond (agrees_with b atom.terms row) (heads_from q (b ++ entries_of atom.terms row) lists) [] ++ heads_from q b (items_of atom rows ∷ lists)
  heads_row b atom row rows lists =
      ap (map (head_row q.head)) (walk_goes values_join item_fits item_entries (all_hold q.comparisons) b (items_of atom (row ∷ rows)) lists)
      ∙ (map_append (head_row q.head) (cond (fits atom.terms row) (more (b ++ entries_of atom.terms row)) []) (flat_map (λ y. cond (item_fits y) (more (b ++ item_entries y)) []) (items_of atom rows))
      ∙ ap₂ (λ l r. l ++ map (head_row q.head) r)
      (go (fits atom.terms row) (consistent values_join (b ++ entries_of atom.terms row)) (more (b ++ entries_of atom.terms row)) (begun_none values_join item_fits item_entries (all_hold q.comparisons) (b ++ entries_of atom.terms row) lists))
      (sym (walk_goes values_join item_fits item_entries (all_hold q.comparisons) b (items_of atom rows) lists)))
    where
      more : Binding Value → List (Binding Value)
      more c = solutions_from values_join item_fits item_entries (all_hold q.comparisons) c lists

      go : (s t : Bool) (found : List (Binding Value)) → (t ≡ false → found ≡ []) → map (head_row q.head) (cond s found []) ≡ cond (s && t) (map (head_row q.head) found) []
      go true true found h = refl
      go true false found h = ap (map (head_row q.head)) (h refl)
      go false t found h = refl

-- ---- what the chosen rows bind

entries_fit : (terms : List Term) (row : List Value) → AllByRecursion FitsValue row → AllByRecursion (λ p. FitsValue p.1) (entries_of terms row)
entries_fit [] row all = tt
entries_fit (t ∷ terms) [] all = tt
entries_fit (term.Constant c ∷ terms) (x ∷ row) all = entries_fit terms row all.1
entries_fit (term.Variable v ∷ terms) (x ∷ row) all = (all.0, entries_fit terms row all.1)

-- one row more
pub row_bound : (b : Binding Value) (terms : List Term) (row : List Value) → AreBound b → FitsRow row → agrees_with b terms row ≡ true → AreBound (b ++ entries_of terms row)
row_bound b terms row h f e = record {
  agree = (and_parts (fits terms row) (consistent values_join (b ++ entries_of terms row)) e).1;
  fit = each_append (λ p. FitsValue p.1) b (entries_of terms row) h.fit (entries_fit terms row f.each);
}

-- ---- the rows of an atom, one after another

-- What is found from a row on is what is found with it, where it agrees, and then from the next row on.
pub row_walked : (q : Query) (b : Binding Value) (atom : Atom) (left rest : List (List Value)) (row : List Value) (lists : List (List Item)) (before after : List (List Value))
    → left ≡ row ∷ rest
    → after ≡ before ++ cond (agrees_with b atom.terms row) (heads_from q (b ++ entries_of atom.terms row) lists) []
    → after ++ heads_from q b (items_of atom rest ∷ lists) ≡ before ++ heads_from q b (items_of atom left ∷ lists)
row_walked q b atom left rest row lists before after first e =
    ap (λ f. f ++ heads_from q b (items_of atom rest ∷ lists)) e
    ∙ (append_assoc before _ _
    ∙ ap (λ f. before ++ f) (sym (heads_row q b atom row rest lists)
    ∙ ap (λ rs. heads_from q b (items_of atom rs ∷ lists)) (sym first)))

-- a row that agrees: what is found with it comes
pub goes_on : (q : Query) (b now new : Binding Value) (terms ts : List Term) (row xs : List Value) (lists : List (List Item)) (before after : List (List Value))
    → now ≡ b → ts ≡ terms → xs ≡ row → agrees_with now ts xs ≡ true → new ≡ now ++ entries_of ts xs → after ≡ before ++ heads_from q new lists
    → after ≡ before ++ cond (agrees_with b terms row) (heads_from q (b ++ entries_of terms row) lists) []
goes_on q b now new terms ts row xs lists before after same is_terms is_row e n found =
    let agrees : agrees_with b terms row ≡ true = rw (← same, ← is_terms, ← is_row) e in
    let bound : new ≡ b ++ entries_of terms row = rw (← same, ← is_terms, ← is_row) n in
    found ∙ (ap (λ c. before ++ heads_from q c lists) bound ∙ ap (λ t. before ++ cond t (heads_from q (b ++ entries_of terms row) lists) []) (sym agrees))

-- a row that doesn't: nothing comes
pub passes_over : (q : Query) (b now : Binding Value) (terms ts : List Term) (row xs : List Value) (lists : List (List Item)) (before after : List (List Value))
    → now ≡ b → ts ≡ terms → xs ≡ row → agrees_with now ts xs ≡ false → after ≡ before
    → after ≡ before ++ cond (agrees_with b terms row) (heads_from q (b ++ entries_of terms row) lists) []
passes_over q b now terms ts row xs lists before after same is_terms is_row e found =
    let differs : agrees_with b terms row ≡ false = rw (← same, ← is_terms, ← is_row) e in
    found ∙ (sym (append-nil before) ∙ ap (λ t. before ++ cond t (heads_from q (b ++ entries_of terms row) lists) []) (sym differs))

pub rows_walked : (q : Query) (b : Binding Value) (atom : Atom) (left : List (List Value)) (lists : List (List Item)) (found : List (List Value))
    → left ≡ [] → found ++ heads_from q b (items_of atom left ∷ lists) ≡ found
rows_walked q b atom left lists found none =
    ap (λ rs. found ++ heads_from q b (items_of atom rs ∷ lists)) none ∙ (ap (λ f. found ++ f) (heads_none q b lists) ∙ append-nil found)

-- what is bound is as before, once the entries behind are cut off
pub cut_back : (old now after : List Entry) (before : ℕ) → before ≡ length old → binding_of now ≡ binding_of old → take (length now) (binding_of after) ≡ binding_of now → binding_of (take before after) ≡ binding_of old
cut_back old now after before e same kept =
    let long : before ≡ length now = omega (arith, e, sym (length-map old entry) ∙ sym (ap length same) ∙ length-map now entry) in
    sym (take-map entry before after) ∙ (ap (λ n. take n (binding_of after)) long ∙ (kept ∙ same))
  where
    entry : Entry → ℕ × Value
    entry p = (p.variable, value_seen p.value)

-- ---- the whole walk

pub heads_of_choices : (q : Query) (arrivals : List (List (List Value))) → heads_from q [] (items q.atoms arrivals) ≡ heads q.head q.atoms q.comparisons arrivals
heads_of_choices q arrivals =
    ap (map (head_row q.head)) (walk_begins values_join item_fits item_entries (all_hold q.comparisons) lists ∙ sym (choices_solutions values_join item_fits item_entries (all_hold q.comparisons) lists))
    ∙ map_map (head_row q.head) (binding_at q.atoms arrivals) (choices q.atoms q.comparisons arrivals)
  where
    lists : List (List Item)
    lists = items q.atoms arrivals

-- the heads in their order, each once, are the answer
pub heads_answer : {E : Type 0} (q : Query) (arrivals : List (List (List Value))) (found : List (List Value)) (result : Result (List (List Value)) E) → found ≡ heads q.head q.atoms q.comparisons arrivals
    → IfOk result (λ rows. AreSortedDistinct found rows) → IfOk result (λ rows. rows ≡ answer_of q arrivals)
heads_answer q arrivals found (Ok rows) e h = only_sorted_rows (heads q.head q.atoms q.comparisons arrivals) rows (rw (← e) h)
heads_answer q arrivals found (Err fault) e h = tt
