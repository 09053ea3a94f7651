-- Once each fragment's table has what its tree gives, the last one's has the solutions over all atoms.
use Rattle.std.proofs.Common.{◌≡◌, ℕ, zero, suc, ◌-◌, ◌==◌, ◌||◌, ◌&&◌, Bool, true, false, List, [], ◌∷◌, ◌++◌, flat_map, map, length, Some, append_assoc, append-nil, length-append, arith, refl, sym, ap, ap₂, subst, ◌∙◌, true≢false}
use mathlib.Core.Path.{fun_ext}
use Rattle.std.specs.Prelude.{All, slice_get}
use Rattle.std.specs.List.{AllByRecursion, filter_map}
use Rattle.std.proofs.lemmas.Bool.{eqb-true}
use Rattle.std.proofs.lemmas.List.{map-append}
use Rattle.std.proofs.lemmas.List.Elements.{All-from_recursion, filter_map-append}
use Rattle.answer_theory.specs.Bags.{SameBag, numbers_from}
use Rattle.answer_theory.specs.Bindings.{Binding, value_of}
use Rattle.answer_theory.specs.Solutions.{Binds, ReadsOnly, names, solutions, valuations}
use Rattle.answer_theory.specs.Trees.{Tree, Join, Holds, IsPlaced, ScansHold, expansion, given_rows, leaves, no_tables, tests, variables}
use Rattle.answer_theory.proofs.Bags.{bag_from_same, bag_map, bag_trans}
use Rattle.answer_theory.proofs.Bools.{and_assoc, nat_eq_self}
use Rattle.answer_theory.proofs.Held.{held_rows}
use Rattle.answer_theory.proofs.Lists.{all_append, flat_map_append}
use Rattle.answer_theory.proofs.Numbers.{bag_all}
use Rattle.answer_theory.proofs.Orders.{solutions_reordered}
use Rattle.answer_theory.proofs.Tests.{reads_more, reads_values}
use Rattle.answer_theory.proofs.Trees.{finished_holds, given_solutions}
use Rattle.text_reading.proofs.FaultLaws.{first_empty, rest_empty}
use Rattle.tuple_core.specs.Order.{values_same}
use Rattle.tuple_core.specs.Values.{RowList}
use Rattle.tuple_core.specs.declared.value.Value.{Value}
use Rattle.med_base.specs.declared.names.Name.{Name}
use Rattle.med_base.specs.declared.names.Name.TheVariants as name
use Rattle.row_match.specs.Filters.{all_hold, comparison_variables, holds_in}
use Rattle.row_match.specs.Patterns.{pattern_variables, values_join}
use Rattle.row_match.specs.declared.filter.Comparison.{Comparison}
use Rattle.row_match.proofs.Reading.{reads_comparisons}
use Rattle.query_core.specs.Answers.{leaf_rows, solutions_of}
use Rattle.query_core.proofs.Heads.{leaf_binds_variables}
use Rattle.query_core.specs.declared.query.Atom.{Atom}
use Rattle.query_core.specs.declared.query.Query.{Query}
use Rattle.join_trees.specs.Shapes.{Shape, tip, fork, nodes_of}
use Rattle.join_trees.specs.declared.tree.Leaf.TheVariants as leaf
use Rattle.join_trees.specs.declared.tree.Node.TheVariants as node
use Rattle.plan_reader.specs.declared.plan.Fragment.{Fragment}
use Rattle.plan_checker.specs.Covers.{IsMade, expanded}
use Rattle.plan_checker.specs.Places.{atom_site, atoms_under, site}
use Rattle.plan_checker.specs.Solving.{AreAsWide, AreFilled, atom_variables, joined_tree, leaf_at, name_of, names_in, placed_at, rows_in, terms_variables, tested_in, variables_under}
use Rattle.plan_checker.specs.Uses.{atom_of, atoms_used, fragments_used, numbers_of}
use Rattle.plan_checker.specs.declared.walking.Site.{Site}
use Rattle.plan_checker.proofs.BoundLaws.{AreBound}
use Rattle.plan_checker.proofs.CoverLaws.{AreOrdered, all_named, either_first, named_first, named_second, names-append, used_in_join}
use Rattle.plan_checker.proofs.SiteLaws.{own_sites}

-- ---- rows of atoms

leaf_widths : (atoms : List Atom) (arrivals : List RowList) (n : ℕ) → AreAsWide atoms arrivals → All (Binds (terms_variables (slice_get atoms n))) (rows_in (slice_get (leaf_rows atoms arrivals) n))
leaf_widths [] arrivals zero h = All-from_recursion (Binds []) [] tt
leaf_widths [] arrivals (suc n) h = All-from_recursion (Binds []) [] tt
leaf_widths (atom ∷ atoms) [] zero h = All-from_recursion (Binds (pattern_variables atom.terms)) [] tt
leaf_widths (atom ∷ atoms) [] (suc n) h = leaf_widths atoms [] n (wide atoms)
  where
    wide : (more : List Atom) → AreAsWide more []
    wide [] = tt
    wide (other ∷ more) = tt
leaf_widths (atom ∷ atoms) (rows ∷ arrivals) zero h = leaf_binds_variables atom rows h.0
leaf_widths (atom ∷ atoms) (rows ∷ arrivals) (suc n) h = leaf_widths atoms arrivals n h.1

leaf_count : (atoms : List Atom) (arrivals : List RowList) → length (leaf_rows atoms arrivals) ≡ length atoms
leaf_count [] arrivals = refl
leaf_count (atom ∷ atoms) [] = ap suc (leaf_count atoms [])
leaf_count (atom ∷ atoms) (rows ∷ arrivals) = ap suc (leaf_count atoms arrivals)

get_front : {A : Type 0} (before : List A) (x : A) (xs : List A) (n : ℕ) → length before ≡ n → slice_get (before ++ x ∷ xs) n ≡ Some x
get_front [] x xs n e = ap (slice_get (x ∷ xs)) (sym e)
get_front (y ∷ before) x xs zero e = absurd (omega (arith, e))
get_front (y ∷ before) x xs (suc n) e = get_front before x xs n (omega (arith, e))

numbered : (before xs : List (List (Binding Value))) (n : ℕ) → length before ≡ n → map (λ a. rows_in (slice_get (before ++ xs) (a - 1))) (numbers_from (suc n) (length xs)) ≡ xs
numbered before [] n e = refl
numbered before (x ∷ xs) n e =
    let less : suc n - 1 ≡ n = omega arith in
    let here : rows_in (slice_get (before ++ x ∷ xs) (suc n - 1)) ≡ x = ap rows_in (ap (slice_get (before ++ x ∷ xs)) less ∙ get_front before x xs n e) in
    let longer : length (before ++ x ∷ []) ≡ suc n = omega (arith, e, length-append before (x ∷ [])) in
    let rest : map (λ a. rows_in (slice_get (before ++ x ∷ xs) (a - 1))) (numbers_from (suc (suc n)) (length xs)) ≡ xs =
    ap (λ all. map (λ a. rows_in (slice_get all (a - 1))) (numbers_from (suc (suc n)) (length xs))) (sym (append_assoc before (x ∷ []) xs)) ∙ numbered (before ++ x ∷ []) xs (suc n) longer in
    ap₂ (λ y ys. y ∷ ys) here rest

-- the leaves of all atoms, by their numbers
leaves_numbered : (atoms : List Atom) (arrivals : List RowList) → map (leaf_at atoms arrivals) (numbers_from 1 (length atoms)) ≡ leaf_rows atoms arrivals
leaves_numbered atoms arrivals = ap (λ n. map (leaf_at atoms arrivals) (numbers_from 1 n)) (sym (leaf_count atoms arrivals)) ∙ numbered [] (leaf_rows atoms arrivals) 0 refl

-- ---- lists

pub each_first : {A : Type 0} (P : A → Type 0) (xs ys : List A) → AllByRecursion P (xs ++ ys) → AllByRecursion P xs
each_first P [] ys h = tt
each_first P (x ∷ xs) ys h = (h.0, each_first P xs ys h.1)

pub each_rest : {A : Type 0} (P : A → Type 0) (xs ys : List A) → AllByRecursion P (xs ++ ys) → AllByRecursion P ys
each_rest P [] ys h = h
each_rest P (x ∷ xs) ys h = each_rest P xs ys h.1

-- ---- trees with rows and comparisons

module _ (query : Query) (places : List Name) (arrivals : List RowList) (made : ℕ → Shape) (tables : ℕ → List (Binding Value)) where
  abbrev tree : Shape → Tree Value
  tree t = joined_tree query places arrivals made t

  abbrev under : Shape → List ℕ
  under t = variables_under query.atoms (atoms_under [] t)

  -- the table has what the number stands for
  abbrev Held : ℕ → Type 0
  Held k = Holds values_join (under (made k)) (tables k) (tree (made k))

  -- all nodes of a tree of its own: what is placed there reads variables of the atoms under it
  abbrev pub IsBound : Shape → Type 0
  IsBound t = AllByRecursion (AreBound query.atoms query.comparisons places) (filter_map atom_site (nodes_of t)) × AllByRecursion (AreBound query.atoms query.comparisons places) (own_sites made t)

  expanded_tree : (t : Shape) → expansion (λ k. tree (made k)) (tree t) ≡ tree (expanded made t)
  expanded_tree (tip (leaf.Atom a)) = refl
  expanded_tree (tip (leaf.Fragment f)) = refl
  expanded_tree (fork j a b) = ap₂ (λ l r. Join (all_hold (placed_at query.comparisons places (name.Join j))) l r) (expanded_tree a) (expanded_tree b)

  tree_variables : (t : Shape) → variables (tree t) ≡ under (expanded made t)
  tree_variables (tip (leaf.Atom a)) = sym (append-nil (atom_variables query.atoms a))
  tree_variables (tip (leaf.Fragment f)) = refl
  tree_variables (fork j a b) =
      ap₂ (λ us vs. us ++ vs) (tree_variables a) (tree_variables b) ∙ sym (flat_map_append (atom_variables query.atoms) (atoms_under [] (expanded made a)) (atoms_under [] (expanded made b)))

  left_used : (j : ℕ) (a b : Shape) (k : ℕ) → names (fragments_used (nodes_of a)) k ≡ true → names (fragments_used (nodes_of (fork j a b))) k ≡ true
  left_used j a b k e = ap (λ ns. names ns k) (used_in_join (nodes_of a) (nodes_of b) j) ∙ named_first (fragments_used (nodes_of a)) (fragments_used (nodes_of b)) k e

  right_used : (j : ℕ) (a b : Shape) (k : ℕ) → names (fragments_used (nodes_of b)) k ≡ true → names (fragments_used (nodes_of (fork j a b))) k ≡ true
  right_used j a b k e = ap (λ ns. names ns k) (used_in_join (nodes_of a) (nodes_of b) j) ∙ named_second (fragments_used (nodes_of a)) (fragments_used (nodes_of b)) k e

  node_reads : (x : Name) (atoms : List ℕ) → AreBound query.atoms query.comparisons places (site x atoms) → ReadsOnly (variables_under query.atoms atoms) (all_hold (placed_at query.comparisons places x))
  node_reads x atoms bound = reads_more (comparison_variables (placed_at query.comparisons places x)) (variables_under query.atoms atoms) (all_hold (placed_at query.comparisons places x)) (reads_comparisons (placed_at query.comparisons places x)) bound

  -- the tests are placed where their variables are bound
  placed_tree : (t : Shape) → AreAsWide query.atoms arrivals → IsBound t → ((k : ℕ) → names (fragments_used (nodes_of t)) k ≡ true → Held k) → IsPlaced tables (tree t)
  placed_tree (tip (leaf.Atom a)) wide bound held = (
    leaf_widths query.atoms arrivals (a - 1) wide,
    subst (λ vs. ReadsOnly vs (all_hold (placed_at query.comparisons places (name.Atom a)))) (append-nil (atom_variables query.atoms a)) (node_reads (name.Atom a) (a ∷ []) bound.0.0),
  )
  placed_tree (tip (leaf.Fragment f)) wide bound held =
      held_rows values_join values_same (under (made f)) (tables f) (tree (made f)) (held f (either_first (f == f) false (nat_eq_self f)))
  placed_tree (fork j a b) wide bound held =
      let B : Site → Type 0 = AreBound query.atoms query.comparisons places in
      let top : List Site = site (name.Join j) (atoms_under [] (expanded made (fork j a b))) ∷ [] in
      let atoms = subst (AllByRecursion B) (filter_map-append atom_site (nodes_of a) (nodes_of b ++ node.Join j ∷ [])) bound.0 in
      let atoms_b = subst (AllByRecursion B) (filter_map-append atom_site (nodes_of b) (node.Join j ∷ [])) (each_rest B (filter_map atom_site (nodes_of a)) (filter_map atom_site (nodes_of b ++ node.Join j ∷ [])) atoms) in
      let joins_b = each_rest B (own_sites made a) (own_sites made b ++ top) bound.1 in
      let here = each_rest B (own_sites made b) top joins_b in
      let vs : variables (tree a) ++ variables (tree b) ≡ under (expanded made (fork j a b)) = tree_variables (fork j a b) in (
        placed_tree a wide (each_first B (filter_map atom_site (nodes_of a)) _ atoms, each_first B (own_sites made a) _ bound.1) (λ k e. held k (left_used j a b k e)),
        placed_tree b wide (each_first B (filter_map atom_site (nodes_of b)) _ atoms_b, each_first B (own_sites made b) top joins_b) (λ k e. held k (right_used j a b k e)),
        subst (λ us. ReadsOnly us (all_hold (placed_at query.comparisons places (name.Join j)))) (sym vs) (node_reads (name.Join j) (atoms_under [] (expanded made (fork j a b))) here.0),
      )

  scans_hold : (t : Shape) → ((k : ℕ) → names (fragments_used (nodes_of t)) k ≡ true → Held k) → ScansHold values_join tables (λ k. tree (made k)) (tree t)
  scans_hold (tip (leaf.Atom a)) held = tt
  scans_hold (tip (leaf.Fragment f)) held = held f (either_first (f == f) false (nat_eq_self f))
  scans_hold (fork j a b) held = (scans_hold a (λ k e. held k (left_used j a b k e)), scans_hold b (λ k e. held k (right_used j a b k e)))

  -- a fragment's table has what its number stands for
  fragment_holds : (f : Fragment) → AreAsWide query.atoms arrivals → made f.number ≡ expanded made f.tree → IsBound f.tree → SameBag (tables f.number) (given_rows values_join tables (tree f.tree))
      → ((k : ℕ) → names (fragments_used (nodes_of f.tree)) k ≡ true → Held k) → Held f.number
  fragment_holds f wide is bound filled held =
      let whole : Holds values_join (variables (tree f.tree)) (tables f.number) (expansion (λ k. tree (made k)) (tree f.tree)) =
      finished_holds values_join tables (λ k. tree (made k)) (tree f.tree) (tables f.number) (placed_tree f.tree wide bound held) (scans_hold f.tree held) filled in
      let more : Holds values_join (under (expanded made f.tree)) (tables f.number) (tree (expanded made f.tree)) =
      subst (λ vs. Holds values_join vs (tables f.number) (tree (expanded made f.tree))) (tree_variables f.tree) (subst (λ u. Holds values_join (variables (tree f.tree)) (tables f.number) u) (expanded_tree f.tree) whole) in
      subst (λ (s : Shape). Holds values_join (under s) (tables f.number) (tree s)) (sym is) more

  all_hold_tables : (before : List ℕ) (fs : List Fragment) → AreAsWide query.atoms arrivals → IsMade made fs → AreOrdered before fs → AllByRecursion (λ (f : Fragment). IsBound f.tree) fs
      → AreFilled query places arrivals made tables fs → ((k : ℕ) → names before k ≡ true → Held k) → (k : ℕ) → names (before ++ numbers_of fs) k ≡ true → Held k
  all_hold_tables before [] wide is ordered bound filled held k e = held k (ap (λ ns. names ns k) (sym (append-nil before)) ∙ e)
  all_hold_tables before (f ∷ fs) wide is ordered bound filled held k e =
      let here : Held f.number = fragment_holds f wide is.0 bound.0 filled.0 (λ m h. held m (all_named before (fragments_used (nodes_of f.tree)) m ordered.0 h)) in
      all_hold_tables (before ++ f.number ∷ []) fs wide is.1 ordered.1 bound.1 filled.1
      (λ m h. more m here (names before m) refl (sym (names-append before (f.number ∷ []) m) ∙ h)) k (ap (λ ns. names ns k) (append_assoc before (f.number ∷ []) (numbers_of fs)) ∙ e)
    where
      more : (m : ℕ) → Held f.number → (b : Bool) → names before m ≡ b → (names before m || ((f.number == m) || false)) ≡ true → Held m
      more m here true g h = held m g
      more m here false g h = subst Held (eqb-true f.number m (one (f.number == m) (ap (λ b. b || ((f.number == m) || false)) (sym g) ∙ h))) here
        where
          one : (b : Bool) → (b || false) ≡ true → b ≡ true
          one true i = refl
          one false i = i

  -- all tests of a tree are those of the comparisons at its nodes
  tests_are : (t : Shape) (b : Binding Value) → tests (tree t) b ≡ all_hold (tested_in query.comparisons places t) b
  tests_are (tip (leaf.Atom a)) b = ap (λ cs. all_hold cs b) (sym (append-nil (placed_at query.comparisons places (name.Atom a))))
  tests_are (tip (leaf.Fragment f)) b = refl
  tests_are (fork j l r) b =
      let at : Name → List Comparison = placed_at query.comparisons places in
      let named : names_in (fork j l r) ≡ names_in l ++ (names_in r ++ name.Join j ∷ []) = filter_map-append name_of (nodes_of l) (nodes_of r ++ node.Join j ∷ []) ∙ ap (λ xs. names_in l ++ xs) (filter_map-append name_of (nodes_of r) (node.Join j ∷ [])) in
      let all : tested_in query.comparisons places (fork j l r) ≡ tested_in query.comparisons places l ++ (tested_in query.comparisons places r ++ at (name.Join j)) =
      ap (flat_map at) named ∙ flat_map_append at (names_in l) (names_in r ++ name.Join j ∷ [])
      ∙ ap (λ xs. tested_in query.comparisons places l ++ xs) (flat_map_append at (names_in r) (name.Join j ∷ []) ∙ ap (λ xs. tested_in query.comparisons places r ++ xs) (append-nil (at (name.Join j)))) in
      let p : Comparison → Bool = λ c. holds_in c b in
      ap₂ (λ x y. (x && y) && all_hold (at (name.Join j)) b) (tests_are l b) (tests_are r b)
      ∙ and_assoc (all_hold (tested_in query.comparisons places l) b) (all_hold (tested_in query.comparisons places r) b) (all_hold (at (name.Join j)) b)
      ∙ sym (ap (λ cs. all_hold cs b) all ∙ all_append p (tested_in query.comparisons places l) (tested_in query.comparisons places r ++ at (name.Join j))
      ∙ ap (λ x. all_hold (tested_in query.comparisons places l) b && x) (all_append p (tested_in query.comparisons places r) (at (name.Join j))))

  -- the leaves of a tree without fragments are those of its atoms
  leaves_are : (t : Shape) → fragments_used (nodes_of t) ≡ [] → leaves no_tables (tree t) ≡ map (leaf_at query.atoms arrivals) (atoms_used (nodes_of t))
  leaves_are (tip (leaf.Atom a)) none = refl
  leaves_are (tip (leaf.Fragment f)) none = absurd (cc)
  leaves_are (fork j a b) none =
      let parts : fragments_used (nodes_of a) ++ fragments_used (nodes_of b) ≡ [] = sym (used_in_join (nodes_of a) (nodes_of b) j) ∙ none in
      let used : atoms_used (nodes_of (fork j a b)) ≡ atoms_used (nodes_of a) ++ atoms_used (nodes_of b) =
      filter_map-append atom_of (nodes_of a) (nodes_of b ++ node.Join j ∷ []) ∙ ap (λ xs. atoms_used (nodes_of a) ++ xs) (filter_map-append atom_of (nodes_of b) (node.Join j ∷ []) ∙ append-nil (atoms_used (nodes_of b))) in
      ap₂ (λ xs ys. xs ++ ys) (leaves_are a (first_empty (fragments_used (nodes_of a)) (fragments_used (nodes_of b)) parts)) (leaves_are b (rest_empty (fragments_used (nodes_of a)) (fragments_used (nodes_of b)) parts))
      ∙ sym (ap (map (leaf_at query.atoms arrivals)) used ∙ map-append (leaf_at query.atoms arrivals) (atoms_used (nodes_of a)) (atoms_used (nodes_of b)))

  -- what stands for the whole query
  pub last_solves : (last : ℕ) → Held last → fragments_used (nodes_of (made last)) ≡ [] → SameBag (atoms_used (nodes_of (made last))) (numbers_from 1 (length query.atoms))
      → SameBag (tested_in query.comparisons places (made last)) query.comparisons
      → SameBag (valuations (tables last)) (valuations (solutions_of query.atoms query.comparisons arrivals))
  last_solves last held none atoms tested =
      let whole : Shape = made last in
      let test : Binding Value → Bool = all_hold query.comparisons in
      let given : given_rows values_join no_tables (tree whole) ≡ solutions values_join (tests (tree whole)) (leaves no_tables (tree whole)) = given_solutions values_join values_same no_tables (tree whole) held.placed in
      let same_test : tests (tree whole) ≡ test = fun_ext (λ b. tests_are whole b ∙ bag_all (λ c. holds_in c b) tested) in
      let same_leaves : leaves no_tables (tree whole) ≡ map (leaf_at query.atoms arrivals) (atoms_used (nodes_of whole)) = leaves_are whole none in
      let rows : SameBag (tables last) (solutions values_join test (map (leaf_at query.atoms arrivals) (atoms_used (nodes_of whole)))) = bag_trans held.rows (bag_from_same (given ∙ ap₂ (solutions values_join) same_test same_leaves)) in
      let turned = solutions_reordered values_join values_same test (reads_values (comparison_variables query.comparisons) test (reads_comparisons query.comparisons)) (leaf_at query.atoms arrivals) (atoms_used (nodes_of whole)) (numbers_from 1 (length query.atoms)) atoms in
      subst (λ ls. SameBag (valuations (tables last)) (valuations (solutions values_join test ls))) (leaves_numbered query.atoms arrivals) (bag_trans (bag_map value_of rows) turned)

  pub tables_solve : (fs : List Fragment) (last : ℕ) → AreAsWide query.atoms arrivals → IsMade made fs → AreOrdered [] fs → AllByRecursion (λ (f : Fragment). IsBound f.tree) fs → AreFilled query places arrivals made tables fs
      → names (numbers_of fs) last ≡ true → fragments_used (nodes_of (made last)) ≡ [] → SameBag (atoms_used (nodes_of (made last))) (numbers_from 1 (length query.atoms))
      → SameBag (tested_in query.comparisons places (made last)) query.comparisons
      → SameBag (valuations (tables last)) (valuations (solutions_of query.atoms query.comparisons arrivals))
  tables_solve fs last wide is ordered bound filled named none atoms tested =
      last_solves last (all_hold_tables [] fs wide is ordered bound filled (λ k e. absurd (true≢false (sym e))) last named) none atoms tested
