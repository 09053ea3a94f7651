-- Trees of joins, and their nodes in the order in which they are kept.
use Rattle.std.specs.Prelude.{◌≡◌, ℕ, ◌==◌, cond, List, [], ◌∷◌, ◌++◌, map, Option, Some, None, refl}
use Rattle.std.proofs.Common.{append_assoc, append-nil, ap, sym, ◌∙◌}
use Rattle.std.specs.Coded.{Coded, code_by, coded×, coded_ℕ, coded_list}
use Rattle.std.specs.List.{filter_map}
use Rattle.join_trees.specs.declared.tree.Leaf.{Leaf}
use Rattle.join_trees.specs.declared.tree.Leaf.TheVariants as leaf
use Rattle.join_trees.specs.declared.tree.Node.{Node}
use Rattle.join_trees.specs.declared.tree.Node.TheVariants as node

-- a leaf, or a join of two trees by its number
pub data Shape : Type 0 where
  tip : Leaf → Shape
  fork : ℕ → Shape → Shape → Shape

-- its nodes: those of the left tree, those of the right one, and the join of the two
abbrev pub nodes_of : Shape → List Node
nodes_of (tip l) = node.Leaf l ∷ []
nodes_of (fork j a b) = nodes_of a ++ (nodes_of b ++ node.Join j ∷ [])

-- Trees on a stack, the last one in front, after one more node. A join with fewer than two trees changes nothing.
abbrev pub with_node : List Shape → Node → List Shape
with_node ts (node.Leaf l) = tip l ∷ ts
with_node [] (node.Join j) = []
with_node (b ∷ []) (node.Join j) = b ∷ []
with_node (b ∷ a ∷ ts) (node.Join j) = fork j a b ∷ ts

abbrev pub with_nodes : List Shape → List Node → List Shape
with_nodes ts [] = ts
with_nodes ts (n ∷ ns) = with_nodes (with_node ts n) ns

-- the trees that nodes make
abbrev pub stack_of : List Node → List Shape
stack_of ns = with_nodes [] ns

-- what stands for a tree where there is none
abbrev pub no_tree : Shape
no_tree = tip (leaf.Atom 0)

abbrev pub first_of : List Shape → Shape
first_of [] = no_tree
first_of (t ∷ ts) = t

-- the tree that nodes make
abbrev pub shape_of : List Node → Shape
shape_of ns = first_of (stack_of ns)

-- the nodes of a stack's trees
abbrev pub all_nodes : List Shape → List Node
all_nodes [] = []
all_nodes (t ∷ ts) = all_nodes ts ++ nodes_of t

-- the two last trees joined, where there are two
abbrev pub joined : ℕ → List Shape → Option (List Shape)
joined j [] = None
joined j (b ∷ []) = None
joined j (b ∷ a ∷ ts) = Some (fork j a b ∷ ts)

-- the only tree
abbrev pub only_tree : List Shape → Option Shape
only_tree [] = None
only_tree (t ∷ []) = Some t
only_tree (t ∷ u ∷ ts) = None

abbrev pub leaf_in : Node → Option Leaf
leaf_in (node.Leaf l) = Some l
leaf_in (node.Join j) = None

abbrev pub join_in : Node → Option ℕ
join_in (node.Leaf l) = None
join_in (node.Join j) = Some j

-- its leaves from left to right, and its joins, those of a left tree before those of a right one, and then their join
abbrev pub leaves_of : Shape → List Leaf
leaves_of t = filter_map leaf_in (nodes_of t)

abbrev pub joins_of : Shape → List ℕ
joins_of t = filter_map join_in (nodes_of t)

-- the nodes of a tree make that tree

pub with_nodes-tree : (t : Shape) (ts : List Shape) (ns : List Node) → with_nodes ts (nodes_of t ++ ns) ≡ with_nodes (t ∷ ts) ns
with_nodes-tree (tip l) ts ns = refl
with_nodes-tree (fork j a b) ts ns =
    ap (with_nodes ts) (append_assoc (nodes_of a) (nodes_of b ++ node.Join j ∷ []) ns)
    ∙ with_nodes-tree a ts ((nodes_of b ++ node.Join j ∷ []) ++ ns)
    ∙ ap (with_nodes (a ∷ ts)) (append_assoc (nodes_of b) (node.Join j ∷ []) ns)
    ∙ with_nodes-tree b (a ∷ ts) (node.Join j ∷ ns)

pub shape_of-nodes_of : (t : Shape) → shape_of (nodes_of t) ≡ t
shape_of-nodes_of t = ap shape_of (sym (append-nil (nodes_of t))) ∙ ap first_of (with_nodes-tree t [] [])

-- how the logic stores a tree

abbrev pub pair_of : Node → ℕ × ℕ
pair_of (node.Leaf (leaf.Atom a)) = (0, a)
pair_of (node.Leaf (leaf.Fragment f)) = (1, f)
pair_of (node.Join j) = (2, j)

abbrev pub node_of : ℕ × ℕ → Node
node_of p = cond (p.0 == 0) (node.Leaf (leaf.Atom p.1)) (cond (p.0 == 1) (node.Leaf (leaf.Fragment p.1)) (node.Join p.1))

node_of-pair_of : (n : Node) → node_of (pair_of n) ≡ n
node_of-pair_of (node.Leaf (leaf.Atom a)) = refl
node_of-pair_of (node.Leaf (leaf.Fragment f)) = refl
node_of-pair_of (node.Join j) = refl

nodes_back : (ns : List Node) → map node_of (map pair_of ns) ≡ ns
nodes_back [] = refl
nodes_back (n ∷ ns) = ap (λ m. m ∷ map node_of (map pair_of ns)) (node_of-pair_of n) ∙ ap (λ ms. n ∷ ms) (nodes_back ns)

abbrev pub to_pairs : Shape → List (ℕ × ℕ)
to_pairs t = map pair_of (nodes_of t)

abbrev pub from_pairs : List (ℕ × ℕ) → Shape
from_pairs ps = shape_of (map node_of ps)

pub from_pairs-to_pairs : (t : Shape) → from_pairs (to_pairs t) ≡ t
from_pairs-to_pairs t = ap shape_of (nodes_back (nodes_of t)) ∙ shape_of-nodes_of t

abbrev pub shape_code : Coded Shape
shape_code = code_by (List (ℕ × ℕ)) (coded_list (coded× coded_ℕ coded_ℕ)) to_pairs from_pairs from_pairs-to_pairs

abbrev pub stack_code : Coded (List Shape)
stack_code = coded_list shape_code
