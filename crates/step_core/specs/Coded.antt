-- How the logic stores a net: its operators in one list, a join behind the operators of its two sides.
use Rattle.std.specs.Prelude.{◌≡◌, ◌⊎◌, List, [], ◌∷◌, ◌++◌, refl}
use Rattle.std.proofs.Common.{append_assoc, append-nil, ap, sym, ◌∙◌, inl, inr}
use Rattle.std.specs.Coded.{Coded, code_by, coded×, coded⊎, coded_list}
use Rattle.tuple_core.specs.Values.{RowList}
use Rattle.step_core.specs.Edges.{Waits}
use Rattle.step_core.specs.Nets.{JoinState, LeafState, NetState, NetTree, leaf, fork}

abbrev pub Operator : Type 0 → Type 0
Operator S = LeafState S ⊎ JoinState

abbrev pub operators_of : {S : Type 0} → NetTree S → List (Operator S)
operators_of (leaf l) = inl l ∷ []
operators_of (fork j a b) = operators_of a ++ (operators_of b ++ inr j ∷ [])

-- trees on a stack, the last one in front, after one more operator
abbrev pub with_operator : {S : Type 0} → List (NetTree S) → Operator S → List (NetTree S)
with_operator ts (inl l) = leaf l ∷ ts
with_operator [] (inr j) = []
with_operator (b ∷ []) (inr j) = b ∷ []
with_operator (b ∷ a ∷ ts) (inr j) = fork j a b ∷ ts

abbrev pub with_operators : {S : Type 0} → List (NetTree S) → List (Operator S) → List (NetTree S)
with_operators ts [] = ts
with_operators ts (x ∷ xs) = with_operators (with_operator ts x) xs

pub with_operators-tree : {S : Type 0} (t : NetTree S) (ts : List (NetTree S)) (xs : List (Operator S)) → with_operators ts (operators_of t ++ xs) ≡ with_operators (t ∷ ts) xs
with_operators-tree (leaf l) ts xs = refl
with_operators-tree (fork j a b) ts xs =
    ap (with_operators ts) (append_assoc (operators_of a) (operators_of b ++ inr j ∷ []) xs)
    ∙ with_operators-tree a ts ((operators_of b ++ inr j ∷ []) ++ xs)
    ∙ ap (with_operators (a ∷ ts)) (append_assoc (operators_of b) (inr j ∷ []) xs)
    ∙ with_operators-tree b (a ∷ ts) (inr j ∷ xs)

abbrev pub first_leaf : {S : Type 0} → NetTree S → LeafState S
first_leaf (leaf l) = l
first_leaf (fork j a b) = first_leaf a

abbrev pub top_of : {S : Type 0} → LeafState S → List (NetTree S) → NetTree S
top_of l [] = leaf l
top_of l (t ∷ ts) = t

pub tree-back : {S : Type 0} (t : NetTree S) → top_of (first_leaf t) (with_operators [] (operators_of t)) ≡ t
tree-back t = ap (λ xs. top_of (first_leaf t) (with_operators [] xs)) (sym (append-nil (operators_of t))) ∙ ap (top_of (first_leaf t)) (with_operators-tree t [] [])

abbrev pub tree_code : {S : Type 0} → Coded (LeafState S) → Coded JoinState → Coded (NetTree S)
tree_code leaf_code join_code =
    code_by (LeafState _ × List (Operator _)) (coded× leaf_code (coded_list (coded⊎ leaf_code join_code))) (λ t. (first_leaf t, operators_of t)) (λ p. top_of p.0 (with_operators [] p.1)) tree-back

abbrev pub net_code : {S : Type 0} → Coded (LeafState S) → Coded JoinState → Coded (Waits × RowList) → Coded (NetState S)
net_code leaf_code join_code rest_code =
    code_by (NetTree _ × (Waits × RowList)) (coded× (tree_code leaf_code join_code) rest_code) (λ n. (n.tree, (n.edge, n.rows))) (λ p. record { tree = p.0; edge = p.1.0; rows = p.1.1 }) (λ _. refl)
