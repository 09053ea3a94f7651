-- Fragments that use each other once cover what they are made of.
use Rattle.std.proofs.Common.{◌≡◌, ℕ, ◌+◌, ◌==◌, ◌||◌, ◌&&◌, Bool, true, false, cond, List, [], ◌∷◌, ◌++◌, filter, flat_map, append-nil, arith, refl, sym, ap, ◌∙◌, true≢false}
use Rattle.std.specs.List.{AllByRecursion, list_all}
use Rattle.std.proofs.lemmas.List.Elements.{filter_map-append}
use Rattle.std.proofs.lemmas.Bool.{eqb-true}
use Rattle.answer_theory.specs.Bags.{SameBag, weight_of}
use Rattle.answer_theory.specs.Rows.{AreDistinct}
use Rattle.answer_theory.specs.Solutions.{names}
use Rattle.answer_theory.proofs.Bags.{weight_of_append, weight_of_filter, weight_of_flat_map}
use Rattle.answer_theory.proofs.Bools.{nat_eq_self, nat_eq_sym}
use Rattle.join_trees.specs.Shapes.{Shape, tip, fork, nodes_of}
use Rattle.join_trees.specs.declared.tree.Leaf.TheVariants as leaf
use Rattle.join_trees.specs.declared.tree.Node.{Node}
use Rattle.join_trees.specs.declared.tree.Node.TheVariants as node
use Rattle.plan_reader.specs.declared.plan.Fragment.{Fragment}
use Rattle.plan_checker.specs.Covers.{IsMade, expanded, is_own, made_after, with_made}
use Rattle.plan_checker.specs.Uses.{fragment_of, fragments_used, nodes_in, numbers_of}

-- ---- weights

-- the weight of a node, fragments left out
abbrev own_weight : (Node → ℕ) → Node → ℕ
own_weight v n = cond (is_own n) (v n) 0

-- the weight of what a number stands for
abbrev made_weight : (Node → ℕ) → (ℕ → Shape) → ℕ → ℕ
made_weight v made n = weight_of v (nodes_of (made n))

pub used_in_join : (ls rs : List Node) (j : ℕ) → fragments_used (ls ++ (rs ++ node.Join j ∷ [])) ≡ fragments_used ls ++ fragments_used rs
used_in_join ls rs j =
    filter_map-append fragment_of ls (rs ++ node.Join j ∷ []) ∙ ap (λ xs. fragments_used ls ++ xs) (filter_map-append fragment_of rs (node.Join j ∷ []) ∙ append-nil (fragments_used rs))

expanded_weighs : (v : Node → ℕ) (made : ℕ → Shape) (t : Shape)
    → weight_of v (nodes_of (expanded made t)) ≡ weight_of (own_weight v) (nodes_of t) + weight_of (made_weight v made) (fragments_used (nodes_of t))
expanded_weighs v made (tip (leaf.Atom a)) = omega arith
expanded_weighs v made (tip (leaf.Fragment f)) = omega arith
expanded_weighs v made (fork j a b) =
    let w : Node → ℕ = own_weight v in
    let m : ℕ → ℕ = made_weight v made in
    let left = expanded_weighs v made a in
    let right = expanded_weighs v made b in
    let whole : weight_of v (nodes_of (expanded made (fork j a b))) ≡ weight_of v (nodes_of (expanded made a)) + (weight_of v (nodes_of (expanded made b)) + (v (node.Join j) + 0)) =
    weight_of_append v (nodes_of (expanded made a)) (nodes_of (expanded made b) ++ node.Join j ∷ [])
    ∙ ap (λ n. weight_of v (nodes_of (expanded made a)) + n) (weight_of_append v (nodes_of (expanded made b)) (node.Join j ∷ [])) in
    let own : weight_of w (nodes_of (fork j a b)) ≡ weight_of w (nodes_of a) + (weight_of w (nodes_of b) + (v (node.Join j) + 0)) =
    weight_of_append w (nodes_of a) (nodes_of b ++ node.Join j ∷ []) ∙ ap (λ n. weight_of w (nodes_of a) + n) (weight_of_append w (nodes_of b) (node.Join j ∷ [])) in
    let used : weight_of m (fragments_used (nodes_of (fork j a b))) ≡ weight_of m (fragments_used (nodes_of a)) + weight_of m (fragments_used (nodes_of b)) =
    ap (weight_of m) (used_in_join (nodes_of a) (nodes_of b) j) ∙ weight_of_append m (fragments_used (nodes_of a)) (fragments_used (nodes_of b)) in
    omega (arith, whole, own, used, left, right)

-- The weights of what the numbers of fragments stand for, where each weighs what its fragment has of its own and what the
-- fragments weigh that it uses.

abbrev pub AreWeighed : (ℕ → ℕ) → (Fragment → ℕ) → List Fragment → Type 0
AreWeighed all own fs = AllByRecursion (λ (f : Fragment). all f.number ≡ own f + weight_of all (fragments_used (nodes_of f.tree))) fs

sum_weights : (all : ℕ → ℕ) (own : Fragment → ℕ) (fs : List Fragment) → AreWeighed all own fs → weight_of all (numbers_of fs) ≡ weight_of own fs + weight_of all (fragments_used (nodes_in fs))
sum_weights all own [] are = omega arith
sum_weights all own (f ∷ fs) are =
    let here : all f.number ≡ own f + weight_of all (fragments_used (nodes_of f.tree)) = are.0 in
    let used : weight_of all (fragments_used (nodes_in (f ∷ fs))) ≡ weight_of all (fragments_used (nodes_of f.tree)) + weight_of all (fragments_used (nodes_in fs)) =
    ap (weight_of all) (filter_map-append fragment_of (nodes_of f.tree) (nodes_in fs)) ∙ weight_of_append all (fragments_used (nodes_of f.tree)) (fragments_used (nodes_in fs)) in
    omega (arith, here, used, sum_weights all own fs are.1)

-- where the fragments together with some finished ones are used once each, but for those on top
pub tops_weigh : (all : ℕ → ℕ) (own : Fragment → ℕ) (fs : List Fragment) (finished tops : List ℕ) → AreWeighed all own fs → SameBag (numbers_of fs ++ finished) (fragments_used (nodes_in fs) ++ tops)
    → weight_of all tops ≡ weight_of own fs + weight_of all finished
tops_weigh all own fs finished tops are bag =
    let both : weight_of all (numbers_of fs ++ finished) ≡ weight_of all (fragments_used (nodes_in fs) ++ tops) = bag.weighs all in
    let one = weight_of_append all (numbers_of fs) finished in
    let two = weight_of_append all (fragments_used (nodes_in fs)) tops in
    omega (arith, both, one, two, sum_weights all own fs are)

nodes_weigh : (v : Node → ℕ) (made : ℕ → Shape) (fs : List Fragment) → IsMade made fs → AreWeighed (made_weight v made) (λ f. weight_of (own_weight v) (nodes_of f.tree)) fs
nodes_weigh v made [] is = tt
nodes_weigh v made (f ∷ fs) is = (ap (λ t. weight_of v (nodes_of t)) is.0 ∙ expanded_weighs v made f.tree, nodes_weigh v made fs is.1)

-- Then the expanded trees of the top ones have the nodes of all fragments and those of the finished ones.
pub tops_cover : (made : ℕ → Shape) (fs : List Fragment) (finished tops : List ℕ) → IsMade made fs → SameBag (numbers_of fs ++ finished) (fragments_used (nodes_in fs) ++ tops)
    → SameBag (flat_map (λ n. nodes_of (made n)) tops) (filter is_own (nodes_in fs) ++ flat_map (λ n. nodes_of (made n)) finished)
tops_cover made fs finished tops is bag = record {
  weighs = λ v.
      let all : ℕ → ℕ = made_weight v made in
      let own : Fragment → ℕ = λ f. weight_of (own_weight v) (nodes_of f.tree) in
      weight_of_flat_map (λ n. nodes_of (made n)) v tops
      ∙ tops_weigh all own fs finished tops (nodes_weigh v made fs is) bag
      ∙ ap (λ n. n + weight_of all finished) (sym (weight_of_filter is_own v (nodes_in fs) ∙ weight_of_flat_map (λ (f : Fragment). nodes_of f.tree) (own_weight v) fs))
      ∙ ap (λ n. weight_of v (filter is_own (nodes_in fs)) + n) (sym (weight_of_flat_map (λ n. nodes_of (made n)) v finished))
      ∙ sym (weight_of_append v (filter is_own (nodes_in fs)) (flat_map (λ n. nodes_of (made n)) finished));
}

-- ---- what each number stands for

pub neither : (a b : Bool) → (a || b) ≡ false → (a ≡ false) × (b ≡ false)
neither true b e = absurd (true≢false e)
neither false b e = (refl, e)

pub either_first : (a b : Bool) → a ≡ true → (a || b) ≡ true
either_first a b e = rw e refl

pub either_second : (a b : Bool) → b ≡ true → (a || b) ≡ true
either_second true b e = refl
either_second false b e = e

pub names-append : (ns ms : List ℕ) (k : ℕ) → names (ns ++ ms) k ≡ (names ns k || names ms k)
names-append [] ms k = refl
names-append (n ∷ ns) ms k = by (n == k) (names-append ns ms k)
  where
    by : (b : Bool) → names (ns ++ ms) k ≡ (names ns k || names ms k) → (b || names (ns ++ ms) k) ≡ ((b || names ns k) || names ms k)
    by true e = refl
    by false e = e

pub named_first : (ns ms : List ℕ) (k : ℕ) → names ns k ≡ true → names (ns ++ ms) k ≡ true
named_first ns ms k e = names-append ns ms k ∙ either_first (names ns k) (names ms k) e

pub named_second : (ns ms : List ℕ) (k : ℕ) → names ms k ≡ true → names (ns ++ ms) k ≡ true
named_second ns ms k e = names-append ns ms k ∙ either_second (names ns k) (names ms k) e

pub named_last : (ns : List ℕ) (k : ℕ) → names (ns ++ k ∷ []) k ≡ true
named_last ns k = named_second ns (k ∷ []) k (either_first (k == k) false (nat_eq_self k))

stays : (made : ℕ → Shape) (fs : List Fragment) (k : ℕ) → names (numbers_of fs) k ≡ false → made_after made fs k ≡ made k
stays made [] k e = refl
stays made (f ∷ fs) k e =
    let apart : (f.number == k) ≡ false × names (numbers_of fs) k ≡ false = neither (f.number == k) (names (numbers_of fs) k) e in
    stays (with_made made f) fs k apart.1 ∙ ap (λ b. cond b (expanded made f.tree) (made k)) (nat_eq_sym k f.number ∙ apart.0)

same_expanded : (made other : ℕ → Shape) (t : Shape) → ((k : ℕ) → names (fragments_used (nodes_of t)) k ≡ true → made k ≡ other k) → expanded made t ≡ expanded other t
same_expanded made other (tip (leaf.Atom a)) h = refl
same_expanded made other (tip (leaf.Fragment f)) h = h f (either_first (f == f) false (nat_eq_self f))
same_expanded made other (fork j a b) h =
    let used = used_in_join (nodes_of a) (nodes_of b) j in
    ap (λ t. fork j t (expanded made b)) (same_expanded made other a (λ k e. h k (ap (λ ns. names ns k) used ∙ named_first (fragments_used (nodes_of a)) (fragments_used (nodes_of b)) k e)))
    ∙ ap (λ t. fork j (expanded other a) t) (same_expanded made other b (λ k e. h k (ap (λ ns. names ns k) used ∙ named_second (fragments_used (nodes_of a)) (fragments_used (nodes_of b)) k e)))

-- each fragment uses those before it
abbrev pub AreOrdered : List ℕ → List Fragment → Type 0
AreOrdered before [] = Unit {0}
AreOrdered before (f ∷ fs) = (list_all (names before) (fragments_used (nodes_of f.tree)) ≡ true) × AreOrdered (before ++ f.number ∷ []) fs

-- none of the numbers is one of those before
abbrev pub AreApart : List ℕ → List ℕ → Type 0
AreApart before ns = (k : ℕ) → names before k ≡ true → names ns k ≡ false

pub all_named : (before ks : List ℕ) (k : ℕ) → list_all (names before) ks ≡ true → names ks k ≡ true → names before k ≡ true
all_named before [] k all e = absurd (true≢false (sym e))
all_named before (m ∷ ks) k all e = by (names before m) (m == k) refl refl (λ x y. all_named before ks k x y) all e
  where
    by : (a b : Bool) → names before m ≡ a → (m == k) ≡ b → (list_all (names before) ks ≡ true → names ks k ≡ true → names before k ≡ true) → (a && list_all (names before) ks) ≡ true → (b || names ks k) ≡ true → names before k ≡ true
    by false b f g more x y = absurd (true≢false (sym x))
    by true true f g more x y = ap (names before) (sym (eqb-true m k g)) ∙ f
    by true false f g more x y = more x y

pub makes : (made : ℕ → Shape) (before : List ℕ) (fs : List Fragment) → AreApart before (numbers_of fs) → AreDistinct (numbers_of fs) → AreOrdered before fs → IsMade (made_after made fs) fs
makes made before [] apart distinct ordered = tt
makes made before (f ∷ fs) apart distinct ordered =
    let after : ℕ → Shape = made_after (with_made made f) fs in
    let here : after f.number ≡ expanded made f.tree =
    stays (with_made made f) fs f.number distinct.0 ∙ ap (λ b. cond b (expanded made f.tree) (made f.number)) (nat_eq_self f.number) in
    let same : expanded after f.tree ≡ expanded made f.tree =
    same_expanded after made f.tree (λ k e. stays made (f ∷ fs) k (apart k (all_named before (fragments_used (nodes_of f.tree)) k ordered.0 e))) in
    let later : AreApart (before ++ f.number ∷ []) (numbers_of fs) = λ k e. by k (names before k) refl (names-append before (f.number ∷ []) k) e in
    (here ∙ sym same, makes (with_made made f) (before ++ f.number ∷ []) fs later distinct.1 ordered.1)
  where
    by : (k : ℕ) (b : Bool) → names before k ≡ b → names (before ++ f.number ∷ []) k ≡ (names before k || ((f.number == k) || false)) → names (before ++ f.number ∷ []) k ≡ true → names (numbers_of fs) k ≡ false
    by k true g p e = (neither (f.number == k) (names (numbers_of fs) k) (apart k g)).1
    by k false g p e =
        let here : ((f.number == k) || false) ≡ true = ap (λ b. b || ((f.number == k) || false)) (sym g) ∙ sym p ∙ e in
        let same : f.number ≡ k = eqb-true f.number k (one (f.number == k) here) in
        ap (names (numbers_of fs)) (sym same) ∙ distinct.0
      where
        one : (b : Bool) → (b || false) ≡ true → b ≡ true
        one true e = refl
        one false e = e
