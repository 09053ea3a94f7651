-- The trees on a stack, after one more node.
use Rattle.std.proofs.Common.{◌≡◌, ℕ, ◌+◌, ◌≤◌, List, [], ◌∷◌, ◌++◌, length, reverse, Option, Some, None, append_assoc, arith, refl, sym, ap, ◌∙◌}
use Rattle.std.proofs.lemmas.List.{reverse-append}
use Rattle.std.specs.Prelude.{MatchOption, option_to_list}
use Rattle.join_trees.specs.Shapes.{Shape, tip, all_nodes, first_of, joined, nodes_of, only_tree, shape_of, stack_of, with_node, with_nodes}
use Rattle.join_trees.specs.declared.tree.Leaf.{Leaf}
use Rattle.join_trees.specs.declared.tree.Node.{Node}
use Rattle.join_trees.specs.declared.tree.Node.TheVariants as node

with_nodes-append : (ts : List Shape) (ms ns : List Node) → with_nodes ts (ms ++ ns) ≡ with_nodes (with_nodes ts ms) ns
with_nodes-append ts [] ns = refl
with_nodes-append ts (m ∷ ms) ns = with_nodes-append (with_node ts m) ms ns

pub stack_of-one : (ns : List Node) (n : Node) → stack_of (ns ++ n ∷ []) ≡ with_node (stack_of ns) n
stack_of-one ns n = with_nodes-append [] ns (n ∷ [])

short_with : (ts : List Shape) (n : Node) → length (with_node ts n) ≤ length ts + 1
short_with ts (node.Leaf l) = omega arith
short_with [] (node.Join j) = omega arith
short_with (b ∷ []) (node.Join j) = omega arith
short_with (b ∷ a ∷ ts) (node.Join j) = omega arith

short_after : (ts : List Shape) (ns : List Node) → length (with_nodes ts ns) ≤ length ts + length ns
short_after ts [] = omega arith
short_after ts (n ∷ ns) = omega (arith, short_with ts n, short_after (with_node ts n) ns)

-- there are no more trees than nodes
pub stack_short : (ns : List Node) → length (stack_of ns) ≤ length ns
stack_short ns = omega (arith, short_after [] ns)

-- a leaf more

pub leaf_stack : (ns after : List Node) (l : Leaf) → after ≡ ns ++ node.Leaf l ∷ [] → stack_of after ≡ tip l ∷ stack_of ns
leaf_stack ns after l e = ap stack_of e ∙ stack_of-one ns (node.Leaf l)

pub leaf_nodes : (ns after : List Node) (l : Leaf) → all_nodes (stack_of ns) ≡ ns → after ≡ ns ++ node.Leaf l ∷ [] → all_nodes (stack_of after) ≡ after
leaf_nodes ns after l kept e = ap all_nodes (leaf_stack ns after l e) ∙ ap (λ ms. ms ++ node.Leaf l ∷ []) kept ∙ sym e

-- a join more

joined_of : (j : ℕ) (ts : List Shape) → 2 ≤ length ts → Some (with_node ts (node.Join j)) ≡ joined j ts
joined_of j [] h = absurd (omega arith)
joined_of j (b ∷ []) h = absurd (omega arith)
joined_of j (b ∷ a ∷ ts) h = refl

pub few_joined : (j : ℕ) (ts : List Shape) → length ts + 1 ≤ 2 → None ≡ joined j ts
few_joined j [] h = refl
few_joined j (b ∷ []) h = refl
few_joined j (b ∷ a ∷ ts) h = absurd (omega arith)

pub join_stack : (ns after : List Node) (j : ℕ) → 2 ≤ length (stack_of ns) → after ≡ ns ++ node.Join j ∷ [] → Some (stack_of after) ≡ joined j (stack_of ns)
join_stack ns after j two e = ap (λ ts. Some ts) (ap stack_of e ∙ stack_of-one ns (node.Join j)) ∙ joined_of j (stack_of ns) two

nodes_joined : (j : ℕ) (ts : List Shape) → 2 ≤ length ts → all_nodes (with_node ts (node.Join j)) ≡ all_nodes ts ++ node.Join j ∷ []
nodes_joined j [] h = absurd (omega arith)
nodes_joined j (b ∷ []) h = absurd (omega arith)
nodes_joined j (b ∷ a ∷ ts) h =
    sym (append_assoc (all_nodes ts) (nodes_of a) (nodes_of b ++ node.Join j ∷ []))
    ∙ sym (append_assoc (all_nodes ts ++ nodes_of a) (nodes_of b) (node.Join j ∷ []))

pub join_nodes : (ns after : List Node) (j : ℕ) → all_nodes (stack_of ns) ≡ ns → 2 ≤ length (stack_of ns) → after ≡ ns ++ node.Join j ∷ [] → all_nodes (stack_of after) ≡ after
join_nodes ns after j kept two e =
    ap all_nodes (ap stack_of e ∙ stack_of-one ns (node.Join j)) ∙ nodes_joined j (stack_of ns) two ∙ ap (λ ms. ms ++ node.Join j ∷ []) kept ∙ sym e

length_joined : (j : ℕ) (ts : List Shape) → 2 ≤ length ts → length (with_node ts (node.Join j)) + 1 ≡ length ts
length_joined j [] h = absurd (omega arith)
length_joined j (b ∷ []) h = absurd (omega arith)
length_joined j (b ∷ a ∷ ts) h = omega arith

pub join_length : (ns after : List Node) (j : ℕ) → 2 ≤ length (stack_of ns) → after ≡ ns ++ node.Join j ∷ [] → length (stack_of after) + 1 ≡ length (stack_of ns)
join_length ns after j two e = ap (λ ts. length ts + 1) (ap stack_of e ∙ stack_of-one ns (node.Join j)) ∙ length_joined j (stack_of ns) two

-- the only tree

only_of : (ts : List Shape) → length ts ≡ 1 → only_tree ts ≡ Some (first_of ts)
only_of [] h = absurd (omega arith)
only_of (t ∷ []) h = refl
only_of (t ∷ u ∷ ts) h = absurd (omega arith)

pub only_one : (ns : List Node) → length (stack_of ns) ≡ 1 → Some (shape_of ns) ≡ only_tree (stack_of ns)
only_one ns h = sym (only_of (stack_of ns) h)

pub only_none : (ts : List Shape) → (length ts ≡ 1 → ⊥) → None ≡ only_tree ts
only_none [] h = refl
only_none (t ∷ []) h = absurd (h refl)
only_none (t ∷ u ∷ ts) h = refl

nodes_first : (ts : List Shape) → length ts ≡ 1 → nodes_of (first_of ts) ≡ all_nodes ts
nodes_first [] h = absurd (omega arith)
nodes_first (t ∷ []) h = refl
nodes_first (t ∷ u ∷ ts) h = absurd (omega arith)

pub only_nodes : (ns : List Node) → all_nodes (stack_of ns) ≡ ns → length (stack_of ns) ≡ 1 → nodes_of (shape_of ns) ≡ ns
only_nodes ns kept h = nodes_first (stack_of ns) h ∙ kept

-- joins that are open, the innermost in front

pub pushed : {X : Type 0} (xs after : List X) (x : X) → after ≡ xs ++ x ∷ [] → reverse after ≡ x ∷ reverse xs
pushed xs after x e = ap reverse e ∙ reverse-append xs (x ∷ [])

pub popped : {X : Type 0} (xs after : List X) (m : Option X) → xs ≡ after ++ option_to_list m → MatchOption m (length xs ≡ 0 × length after ≡ 0) (λ x. length after + 1 ≡ length xs)
    → MatchOption m (reverse xs ≡ []) (λ x. reverse xs ≡ x ∷ reverse after)
popped xs after None e sizes = ap reverse (none_left xs sizes.0)
  where
    none_left : {X : Type 0} (ys : List X) → length ys ≡ 0 → ys ≡ []
    none_left [] h = refl
    none_left (y ∷ ys) h = absurd (omega (arith, h))
popped xs after (Some x) e sizes = ap reverse e ∙ reverse-append after (x ∷ [])
