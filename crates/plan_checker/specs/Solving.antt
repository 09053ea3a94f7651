-- What the trees of a plan give, over the rows that came for each atom.
use Rattle.std.specs.Prelude.{◌≡◌, ⊤, ℕ, ◌-◌, ◌==◌, cond, Bool, false, List, [], ◌∷◌, flat_map, length, slice_get, Option, Some, None, All}
use Rattle.std.specs.List.{AllByRecursion, filter_map}
use Rattle.answer_theory.specs.Bags.{SameBag}
use Rattle.answer_theory.specs.Bindings.{Binding}
use Rattle.answer_theory.specs.Solutions.{valuations}
use Rattle.answer_theory.specs.Trees.{Tree, Leaf, Scan, Join, given_rows}
use Rattle.tuple_core.specs.Values.{RowList}
use Rattle.tuple_core.specs.declared.value.Value.{Value}
use Rattle.med_base.specs.declared.names.Name.{Name}
use Rattle.med_base.specs.declared.names.Name.TheVariants as name
use Rattle.row_match.specs.Filters.{all_hold}
use Rattle.row_match.specs.Patterns.{pattern_variables, values_join}
use Rattle.row_match.specs.declared.filter.Comparison.{Comparison}
use Rattle.query_core.specs.Answers.{leaf_rows, solutions_of}
use Rattle.query_core.specs.declared.query.Atom.{Atom}
use Rattle.query_core.specs.declared.query.Query.{Query}
use Rattle.join_trees.specs.Shapes.{Shape, tip, fork, no_tree, nodes_of}
use Rattle.join_trees.specs.declared.tree.Leaf.TheVariants as leaf
use Rattle.join_trees.specs.declared.tree.Node.{Node}
use Rattle.join_trees.specs.declared.tree.Node.TheVariants as node
use Rattle.plan_reader.specs.declared.plan.Fragment.{Fragment}
use Rattle.plan_checker.specs.Covers.{last_of, made_after}
use Rattle.plan_checker.specs.Places.{atoms_under}
use Rattle.plan_checker.specs.Uses.{numbers_of}

abbrev pub is_atom_named : ℕ → Name → Bool
is_atom_named a (name.Member m) = false
is_atom_named a (name.Atom b) = a == b
is_atom_named a (name.Join j) = false
is_atom_named a (name.Fragment f) = false

abbrev pub is_join_named : ℕ → Name → Bool
is_join_named i (name.Member m) = false
is_join_named i (name.Atom a) = false
is_join_named i (name.Join j) = i == j
is_join_named i (name.Fragment f) = false

-- the same atom, or the same join
abbrev pub same_node : Name → Name → Bool
same_node (name.Member m) x = false
same_node (name.Atom a) x = is_atom_named a x
same_node (name.Join j) x = is_join_named j x
same_node (name.Fragment f) x = false

-- the comparisons, each with its place, whose place is the node
abbrev pub placed_at : List Comparison → List Name → Name → List Comparison
placed_at [] places x = []
placed_at (c ∷ cs) [] x = []
placed_at (c ∷ cs) (p ∷ places) x = cond (same_node p x) (c ∷ placed_at cs places x) (placed_at cs places x)

abbrev pub name_of : Node → Option Name
name_of (node.Leaf (leaf.Atom a)) = Some (name.Atom a)
name_of (node.Leaf (leaf.Fragment f)) = None
name_of (node.Join j) = Some (name.Join j)

-- the atoms and joins of a tree
abbrev pub names_in : Shape → List Name
names_in t = filter_map name_of (nodes_of t)

-- the comparisons that are tested at the nodes of a tree
abbrev pub tested_in : List Comparison → List Name → Shape → List Comparison
tested_in cs places t = flat_map (placed_at cs places) (names_in t)

abbrev pub terms_variables : Option Atom → List ℕ
terms_variables None = []
terms_variables (Some atom) = pattern_variables atom.terms

-- the variables of the atom of that number
abbrev pub atom_variables : List Atom → ℕ → List ℕ
atom_variables atoms a = terms_variables (slice_get atoms (a - 1))

abbrev pub variables_under : List Atom → List ℕ → List ℕ
variables_under atoms under = flat_map (atom_variables atoms) under

abbrev pub rows_in : Option (List (Binding Value)) → List (Binding Value)
rows_in None = []
rows_in (Some rows) = rows

-- what the rows bind that came for the atom of that number
abbrev pub leaf_at : List Atom → List RowList → ℕ → List (Binding Value)
leaf_at atoms arrivals a = rows_in (slice_get (leaf_rows atoms arrivals) (a - 1))

-- A tree with the rows of its atoms and with the comparisons that are placed at its nodes. A fragment's rows stand in a
-- table of its number and bind the variables of the atoms under it.
abbrev pub joined_tree : Query → List Name → List RowList → (ℕ → Shape) → Shape → Tree Value
joined_tree query places arrivals made (tip (leaf.Atom a)) =
    Leaf (atom_variables query.atoms a) (all_hold (placed_at query.comparisons places (name.Atom a))) (leaf_at query.atoms arrivals a)
joined_tree query places arrivals made (tip (leaf.Fragment f)) = Scan (variables_under query.atoms (atoms_under [] (made f))) f
joined_tree query places arrivals made (fork j a b) =
    Join (all_hold (placed_at query.comparisons places (name.Join j))) (joined_tree query places arrivals made a) (joined_tree query places arrivals made b)

-- each row of an atom has a value for each of its terms
abbrev pub AreAsWide : List Atom → List RowList → Type 0
AreAsWide [] arrivals = ⊤
AreAsWide (atom ∷ atoms) [] = ⊤
AreAsWide (atom ∷ atoms) (rows ∷ arrivals) = All (λ row. length row ≡ length atom.terms) rows × AreAsWide atoms arrivals

-- each fragment's table has what its tree gives over the tables
abbrev pub AreFilled : Query → List Name → List RowList → (ℕ → Shape) → (ℕ → List (Binding Value)) → List Fragment → Type 0
AreFilled query places arrivals made tables fs =
    AllByRecursion (λ (f : Fragment). SameBag (tables f.number) (given_rows values_join tables (joined_tree query places arrivals made f.tree))) fs

-- Once each fragment's table has what its tree gives, the last one's has the solutions over all atoms.
abbrev pub Solves : Query → List Fragment → List Name → Type 0
Solves query fs places = (arrivals : List RowList) (tables : ℕ → List (Binding Value)) → AreAsWide query.atoms arrivals
    → AreFilled query places arrivals (made_after (λ n. no_tree) fs) tables fs
    → SameBag (valuations (tables (last_of (numbers_of fs)))) (valuations (solutions_of query.atoms query.comparisons arrivals))
