-- How a tree's nodes are gone through: the atoms under the trees so far lie on a pile, the last tree's on top.
use Rattle.std.specs.Prelude.{ℕ, List, [], ◌∷◌, ◌++◌}
use Rattle.med_base.specs.declared.names.Name.TheVariants as name
use Rattle.join_trees.specs.declared.tree.Leaf.TheVariants as leaf
use Rattle.join_trees.specs.declared.tree.Node.{Node}
use Rattle.join_trees.specs.declared.tree.Node.TheVariants as node
use Rattle.plan_checker.specs.Places.{Finished, atoms_in, site}
use Rattle.plan_checker.specs.declared.walking.Site.{Site}
use Rattle.plan_checker.specs.declared.walking.Walk.{Walk}

abbrev pub walk : List (List ℕ) → List Site → Walk
walk pile ss = record { pile = pile; sites = ss }

abbrev pub top : List (List ℕ) → List ℕ
top [] = []
top (atoms ∷ pile) = atoms

abbrev pub below : List (List ℕ) → List (List ℕ)
below [] = []
below (atoms ∷ pile) = pile

-- the atoms under a join of the two last trees
abbrev pub both : List (List ℕ) → List ℕ
both pile = top (below pile) ++ top pile

abbrev pub with_node : Finished → Walk → Node → Walk
with_node finished w (node.Leaf (leaf.Atom a)) = walk ((a ∷ []) ∷ w.pile) w.sites
with_node finished w (node.Leaf (leaf.Fragment f)) = walk (atoms_in finished f ∷ w.pile) w.sites
with_node finished w (node.Join j) = walk (both w.pile ∷ below (below w.pile)) (w.sites ++ site (name.Join j) (both w.pile) ∷ [])

abbrev pub with_nodes : Finished → Walk → List Node → Walk
with_nodes finished w [] = w
with_nodes finished w (n ∷ ns) = with_nodes finished (with_node finished w n) ns
