-- What it means that fragments cover a query.
use Rattle.std.specs.Prelude.{◌≡◌, ℕ, ◌==◌, cond, Bool, true, false, List, [], ◌∷◌, ◌++◌, filter}
use Rattle.std.specs.List.{AllByRecursion, filter_map}
use Rattle.answer_theory.specs.Bags.{SameBag, numbers_from}
use Rattle.join_trees.specs.Shapes.{Shape, tip, fork, nodes_of, no_tree}
use Rattle.join_trees.specs.declared.tree.Leaf.TheVariants as leaf
use Rattle.join_trees.specs.declared.tree.Node.{Node}
use Rattle.join_trees.specs.declared.tree.Node.TheVariants as node
use Rattle.plan_reader.specs.declared.plan.Fragment.{Fragment}
use Rattle.plan_checker.specs.Places.{atom_site, join_sites, sites}
use Rattle.plan_checker.specs.declared.walking.Site.{Site}
use Rattle.plan_checker.specs.Uses.{atoms_used, fragments_used, nodes_in, numbers_of}

-- the tree with the trees of its fragments in their places
abbrev pub expanded : (ℕ → Shape) → Shape → Shape
expanded made (tip (leaf.Atom a)) = tip (leaf.Atom a)
expanded made (tip (leaf.Fragment f)) = made f
expanded made (fork j a b) = fork j (expanded made a) (expanded made b)

-- each fragment's number stands for its expanded tree
abbrev pub IsMade : (ℕ → Shape) → List Fragment → Type 0
IsMade made fs = AllByRecursion (λ (f : Fragment). made f.number ≡ expanded made f.tree) fs

-- one fragment more, expanded by those before it
abbrev pub with_made : (ℕ → Shape) → Fragment → ℕ → Shape
with_made made f n = cond (n == f.number) (expanded made f.tree) (made n)

-- what each number stands for, after fragments in their order, from those on that are finished before
abbrev pub made_after : (ℕ → Shape) → List Fragment → ℕ → Shape
made_after made [] = made
made_after made (f ∷ fs) = made_after (with_made made f) fs

abbrev pub last_of : List ℕ → ℕ
last_of [] = 0
last_of (n ∷ []) = n
last_of (n ∷ m ∷ ns) = last_of (m ∷ ns)

-- the last fragment's tree, with the trees of all others in their places
abbrev pub whole_tree : List Fragment → Shape
whole_tree fs = made_after (λ n. no_tree) fs (last_of (numbers_of fs))

-- the node isn't a fragment
abbrev pub is_own : Node → Bool
is_own (node.Leaf (leaf.Atom a)) = true
is_own (node.Leaf (leaf.Fragment f)) = false
is_own (node.Join j) = true

-- the nodes of a tree without fragments where a comparison can be tested, each with the atoms under it
abbrev pub sites_of : Shape → List Site
sites_of t = filter_map atom_site (nodes_of t) ++ join_sites [] t

-- The whole tree has the atoms and joins of all fragments, each as often as it stands there, and no fragment is left in
-- it; its atoms are those of the query, each once.
pub record CoversQuery (atoms : ℕ) (fs : List Fragment) : Type 0 where
  pub nodes : SameBag (nodes_of (whole_tree fs)) (filter is_own (nodes_in fs))
  pub no_fragment : fragments_used (nodes_of (whole_tree fs)) ≡ []
  pub each_atom : SameBag (atoms_used (nodes_of (whole_tree fs))) (numbers_from 1 atoms)
  -- what comes into question for a comparison are its nodes, each with the atoms under it there
  pub each_site : SameBag (sites_of (whole_tree fs)) (sites fs)
