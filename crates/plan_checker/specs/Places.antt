-- Where each comparison is tested: at the first node that binds its variables.
use Rattle.std.specs.Prelude.{ℕ, ◌-◌, ◌==◌, ◌&&◌, cond, Bool, true, false, List, [], ◌∷◌, ◌++◌, slice_get, Option, Some, None, option_map}
use Rattle.std.specs.List.{filter_map, find, list_any}
use Rattle.med_base.specs.declared.names.Name.{Name}
use Rattle.med_base.specs.declared.names.Name.TheVariants as name
use Rattle.row_match.specs.declared.filter.Comparison.{Comparison}
use Rattle.row_match.specs.declared.pattern.Term.{Term}
use Rattle.row_match.specs.declared.pattern.Term.TheVariants.{Constant, Variable}
use Rattle.query_core.specs.declared.query.Atom.{Atom}
use Rattle.query_core.specs.declared.query.Query.{Query}
use Rattle.join_trees.specs.Shapes.{Shape, tip, fork}
use Rattle.join_trees.specs.declared.tree.Leaf.TheVariants as leaf
use Rattle.join_trees.specs.declared.tree.Node.{Node}
use Rattle.plan_reader.specs.declared.plan.Fragment.{Fragment}
use Rattle.plan_checker.specs.Uses.{atom_of, nodes_in}
use Rattle.plan_checker.specs.declared.walking.FinishedFragment.{FinishedFragment}
use Rattle.plan_checker.specs.declared.walking.Site.{Site}

abbrev pub site : Name → List ℕ → Site
site x atoms = record { name = x; atoms = atoms }

-- fragments by their numbers, each with the atoms under its tree
abbrev pub Finished : Type 0
Finished = List FinishedFragment

abbrev pub atoms_in : Finished → ℕ → List ℕ
atoms_in [] f = []
atoms_in (e ∷ finished) f = cond (e.number == f) e.atoms (atoms_in finished f)

-- the atoms under a tree, those of the fragments that it takes rows from included
abbrev pub atoms_under : Finished → Shape → List ℕ
atoms_under finished (tip (leaf.Atom a)) = a ∷ []
atoms_under finished (tip (leaf.Fragment f)) = atoms_in finished f
atoms_under finished (fork j a b) = atoms_under finished a ++ atoms_under finished b

-- a tree's joins, those of a left tree before those of a right one, and then their join
abbrev pub join_sites : Finished → Shape → List Site
join_sites finished (tip l) = []
join_sites finished (fork j a b) =
    join_sites finished a ++ (join_sites finished b ++ site (name.Join j) (atoms_under finished (fork j a b)) ∷ [])

abbrev pub with_fragment : Finished → Fragment → Finished
with_fragment finished f = finished ++ record { number = f.number; atoms = atoms_under finished f.tree } ∷ []

-- the joins of all fragments, in the order in which these run
abbrev pub all_join_sites : Finished → List Fragment → List Site
all_join_sites finished [] = []
all_join_sites finished (f ∷ fs) = join_sites finished f.tree ++ all_join_sites (with_fragment finished f) fs

abbrev pub atom_site : Node → Option Site
atom_site n = option_map (λ a. site (name.Atom a) (a ∷ [])) (atom_of n)

-- the nodes where a comparison can be tested, in the order in which they come into question: atoms, and then joins
abbrev pub sites : List Fragment → List Site
sites fs = filter_map atom_site (nodes_in fs) ++ all_join_sites [] fs

abbrev pub is_variable : ℕ → Term → Bool
is_variable v (Constant c) = false
is_variable v (Variable w) = w == v

abbrev pub stands_in : ℕ → Option Atom → Bool
stands_in v None = false
stands_in v (Some atom) = list_any (is_variable v) atom.terms

-- the variable stands in the atom of that number
abbrev pub atom_has : List Atom → ℕ → ℕ → Bool
atom_has atoms v a = stands_in v (slice_get atoms (a - 1))

abbrev pub binds_term : List Atom → Site → Term → Bool
binds_term atoms s (Constant c) = true
binds_term atoms s (Variable v) = list_any (atom_has atoms v) s.atoms

-- each variable of the comparison stands in one of the atoms under the node
abbrev pub binds : List Atom → Comparison → Site → Bool
binds atoms c s = binds_term atoms s c.left && binds_term atoms s c.right

abbrev pub place_of : List Atom → List Site → Comparison → Option Name
place_of atoms ss c = option_map (λ (s : Site). s.name) (find (binds atoms c) ss)

-- the place of each comparison
unfoldable pub places : Query → List Fragment → List Name
places query fs = filter_map (place_of query.atoms (sites fs)) query.comparisons
