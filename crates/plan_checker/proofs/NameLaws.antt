-- The names of the nodes where comparisons can be tested differ, so that each comparison is placed at one node alone.
use Rattle.std.proofs.Common.{◌≡◌, ℕ, zero, suc, ◌+◌, ◌≤◌, ◌<◌, ◌==◌, ◌||◌, Bool, true, false, cond, List, [], ◌∷◌, ◌++◌, flat_map, map, length, arith, refl, sym, ap, subst, ◌∙◌, true≢false}
use Rattle.std.specs.Prelude.{nat_eq}
use Rattle.std.specs.List.{AllByRecursion, filter_map, list_any}
use Rattle.std.proofs.lemmas.List.Elements.{filter_map-append}
use Rattle.std.proofs.lemmas.List.{map-append}
use Rattle.std.proofs.lemmas.Bool.{eqb-true}
use Rattle.answer_theory.specs.Bags.{SameBag, count_of, numbers_from, weight_of}
use Rattle.answer_theory.specs.Rows.{AreDistinct}
use Rattle.answer_theory.specs.Solutions.{names}
use Rattle.answer_theory.proofs.Bags.{weight_of_alike, weight_of_append, weight_of_flat_map, weight_of_nothing, weight_of_sum}
use Rattle.answer_theory.proofs.Bools.{nat_eq_self, nat_eq_sym}
use Rattle.med_base.specs.declared.names.Name.{Name}
use Rattle.med_base.specs.declared.names.Name.TheVariants as name
use Rattle.row_match.specs.declared.filter.Comparison.{Comparison}
use Rattle.text_reading.specs.Faults.{broken_if}
use Rattle.text_reading.proofs.FaultLaws.{first_empty, not_broken, rest_empty}
use Rattle.join_trees.specs.Shapes.{Shape, tip, fork, join_in, nodes_of}
use Rattle.join_trees.specs.declared.tree.Leaf.TheVariants as leaf
use Rattle.join_trees.specs.declared.tree.Node.{Node}
use Rattle.join_trees.specs.declared.tree.Node.TheVariants as node
use Rattle.plan_reader.specs.Items.{doubled_after, has_doubled}
use Rattle.plan_reader.specs.Own.{own_joins}
use Rattle.plan_reader.specs.declared.plan.Fragment.{Fragment}
use Rattle.plan_checker.specs.Places.{Finished, all_join_sites, atom_site, atoms_under, join_sites, site, sites, with_fragment}
use Rattle.plan_checker.specs.Solving.{name_of, placed_at, same_node}
use Rattle.plan_checker.specs.Uses.{atoms_used, joins_used, nodes_in}
use Rattle.plan_checker.specs.declared.walking.Site.{Site}
use Rattle.plan_checker.proofs.CoverLaws.{AreApart, named_first, named_last, neither, names-append}
use Rattle.plan_checker.proofs.AcceptedLaws.{flipped, none_below}

-- ---- numbers that differ

few_from : (n first count : ℕ) → count_of n (numbers_from first count) ≤ 1
few_from n first zero = omega arith
few_from n first (suc count) = by (first == n) refl (few_from n (suc first) count)
  where
    by : (b : Bool) → (first == n) ≡ b → count_of n (numbers_from (suc first) count) ≤ 1 → cond b 1 0 + count_of n (numbers_from (suc first) count) ≤ 1
    by true e ih =
        let low : n < suc first = let same : first ≡ n = eqb-true first n e in omega (arith, same) in
        let none = none_below n (suc first) count low in omega (arith, none)
    by false e ih = omega (arith, ih)

not_named : (n : ℕ) (ns : List ℕ) → count_of n ns ≡ 0 → names ns n ≡ false
not_named n [] e = refl
not_named n (m ∷ ns) e = by (m == n) (λ h. not_named n ns h) e
  where
    by : (b : Bool) → (count_of n ns ≡ 0 → names ns n ≡ false) → cond b 1 0 + count_of n ns ≡ 0 → (b || names ns n) ≡ false
    by true more h = absurd (omega (arith, h))
    by false more h = more (omega (arith, h))

pub few_distinct : (ns : List ℕ) → ((n : ℕ) → count_of n ns ≤ 1) → AreDistinct ns
few_distinct [] few = tt
few_distinct (m ∷ ns) few =
    let here : cond (m == m) 1 0 + count_of m ns ≤ 1 = few m in
    let one : 1 + count_of m ns ≤ 1 = subst (λ b. cond b 1 0 + count_of m ns ≤ 1) (nat_eq_self m) here in
    (not_named m ns (omega (arith, one)), few_distinct ns (λ n. let all : cond (m == n) 1 0 + count_of n ns ≤ 1 = few n in omega (arith, all)))

pub bag_distinct : (ns : List ℕ) (first count : ℕ) → SameBag ns (numbers_from first count) → AreDistinct ns
bag_distinct ns first count bag = few_distinct ns (λ n. let same : count_of n ns ≡ count_of n (numbers_from first count) = bag.weighs _ in let few = few_from n first count in omega (arith, same, few))

distinct_append : (ns ms : List ℕ) → AreDistinct ns → AreDistinct ms → AreApart ns ms → AreDistinct (ns ++ ms)
distinct_append [] ms d e apart = e
distinct_append (n ∷ ns) ms d e apart =
    (names-append ns ms n ∙ ap (λ b. b || names ms n) d.0 ∙ apart n (first_named n ns), distinct_append ns ms d.1 e (λ k h. apart k (more k n ns h)))
  where
    first_named : (m : ℕ) (ks : List ℕ) → names (m ∷ ks) m ≡ true
    first_named m ks = ap (λ b. b || names ks m) (nat_eq_self m)

    more : (k m : ℕ) (ks : List ℕ) → names ks k ≡ true → names (m ∷ ks) k ≡ true
    more k m ks h = by (m == k)
      where
        by : (b : Bool) → (b || names ks k) ≡ true
        by true = refl
        by false = h

apart_append : (before ns ms : List ℕ) → AreApart before ns → AreApart before ms → AreApart before (ns ++ ms)
apart_append before ns ms one other k h = names-append ns ms k ∙ ap (λ b. b || names ms k) (one k h) ∙ other k h

-- names that stand neither twice nor before
one_apart : (before ns : List ℕ) → has_doubled nat_eq before ns ≡ false → AreDistinct ns × AreApart before ns
one_apart before [] e = (tt, λ k h. refl)
one_apart before (n ∷ ns) e =
    let new = neither (list_any (nat_eq n) before) (has_doubled nat_eq (before ++ n ∷ []) ns) e in
    let later = one_apart (before ++ n ∷ []) ns new.1 in
    let fresh : names before n ≡ false = sym (flipped n before) ∙ new.0 in
    ((later.1 n (named_last before n), later.0), λ k h. by k (n == k) refl fresh h (later.1 k (named_first before (n ∷ []) k h)))
  where
    by : (k : ℕ) (b : Bool) → (n == k) ≡ b → names before n ≡ false → names before k ≡ true → names ns k ≡ false → (b || names ns k) ≡ false
    by k true g fresh h rest = absurd (true≢false (sym h ∙ ap (names before) (sym (eqb-true n k g)) ∙ fresh))
    by k false g fresh h rest = rest

pub joins_apart : (before : List ℕ) (i : ℕ) (fs : List Fragment) → doubled_after nat_eq before i (map own_joins fs) ≡ [] → AreDistinct (joins_used (nodes_in fs)) × AreApart before (joins_used (nodes_in fs))
joins_apart before i [] e = (tt, λ k h. refl)
joins_apart before i (f ∷ fs) e =
    let here = one_apart before (own_joins f) (not_broken _ i (first_empty (broken_if (has_doubled nat_eq before (own_joins f)) i) _ e)) in
    let later = joins_apart (before ++ own_joins f) (i + 1) fs (rest_empty (broken_if (has_doubled nat_eq before (own_joins f)) i) _ e) in
    let parts : joins_used (nodes_in (f ∷ fs)) ≡ own_joins f ++ joins_used (nodes_in fs) = filter_map-append join_in (nodes_of f.tree) (nodes_in fs) in (
      subst AreDistinct (sym parts) (distinct_append (own_joins f) (joins_used (nodes_in fs)) here.0 later.0 (λ k h. later.1 k (second k h))),
      subst (AreApart before) (sym parts) (apart_append before (own_joins f) (joins_used (nodes_in fs)) here.1 (λ k h. later.1 k (named_first before (own_joins f) k h))),
    )
  where
    second : (k : ℕ) → names (own_joins f) k ≡ true → names (before ++ own_joins f) k ≡ true
    second k h = names-append before (own_joins f) k ∙ by (names before k)
      where
        by : (b : Bool) → (b || names (own_joins f) k) ≡ true
        by true = refl
        by false = h

-- ---- names of nodes

pub same_true : (p q : Name) → same_node p q ≡ true → p ≡ q
same_true (name.Member m) q e = absurd (true≢false (sym e))
same_true (name.Atom a) (name.Member m) e = absurd (true≢false (sym e))
same_true (name.Atom a) (name.Atom b) e = ap name.Atom (eqb-true a b e)
same_true (name.Atom a) (name.Join j) e = absurd (true≢false (sym e))
same_true (name.Atom a) (name.Fragment f) e = absurd (true≢false (sym e))
same_true (name.Join i) (name.Member m) e = absurd (true≢false (sym e))
same_true (name.Join i) (name.Atom a) e = absurd (true≢false (sym e))
same_true (name.Join i) (name.Join j) e = ap name.Join (eqb-true i j e)
same_true (name.Join i) (name.Fragment f) e = absurd (true≢false (sym e))
same_true (name.Fragment f) q e = absurd (true≢false (sym e))

-- each is the name of an atom or a join, and none stands twice
abbrev pub AreNodesApart : List Name → Type 0
AreNodesApart [] = Unit {0}
AreNodesApart (x ∷ xs) = (same_node x x ≡ true) × (list_any (same_node x) xs ≡ false) × AreNodesApart xs

no_join : (a : ℕ) (js : List ℕ) → list_any (same_node (name.Atom a)) (map name.Join js) ≡ false
no_join a [] = refl
no_join a (j ∷ js) = no_join a js

any_join : (i : ℕ) (js : List ℕ) → list_any (same_node (name.Join i)) (map name.Join js) ≡ names js i
any_join i [] = refl
any_join i (j ∷ js) = ap (λ b. b || list_any (same_node (name.Join i)) (map name.Join js)) (nat_eq_sym i j) ∙ ap (λ b. (j == i) || b) (any_join i js)

any_atom : (a : ℕ) (atoms js : List ℕ) → list_any (same_node (name.Atom a)) (map name.Atom atoms ++ map name.Join js) ≡ names atoms a
any_atom a [] js = no_join a js
any_atom a (b ∷ atoms) js = ap (λ t. t || list_any (same_node (name.Atom a)) (map name.Atom atoms ++ map name.Join js)) (nat_eq_sym a b) ∙ ap (λ t. (b == a) || t) (any_atom a atoms js)

joins_named : (js : List ℕ) → AreDistinct js → AreNodesApart (map name.Join js)
joins_named [] d = tt
joins_named (j ∷ js) d = (nat_eq_self j, any_join j js ∙ d.0, joins_named js d.1)

both_named : (atoms js : List ℕ) → AreDistinct atoms → AreDistinct js → AreNodesApart (map name.Atom atoms ++ map name.Join js)
both_named [] js d e = joins_named js e
both_named (a ∷ atoms) js d e = (nat_eq_self a, any_atom a atoms js ∙ d.0, both_named atoms js d.1 e)

-- ---- the names of the nodes where comparisons can be tested

abbrev pub name_at : Site → Name
name_at s = s.name

atom_names : (ns : List Node) → map name_at (filter_map atom_site ns) ≡ map name.Atom (atoms_used ns)
atom_names [] = refl
atom_names (node.Leaf (leaf.Atom a) ∷ ns) = ap (λ xs. name.Atom a ∷ xs) (atom_names ns)
atom_names (node.Leaf (leaf.Fragment f) ∷ ns) = atom_names ns
atom_names (node.Join j ∷ ns) = atom_names ns

joined_names : (finished : Finished) (t : Shape) → map name_at (join_sites finished t) ≡ map name.Join (joins_used (nodes_of t))
joined_names finished (tip l) = refl
joined_names finished (fork j a b) =
    let top : List Site = site (name.Join j) (atoms_under finished (fork j a b)) ∷ [] in
    map-append name_at (join_sites finished a) (join_sites finished b ++ top)
    ∙ ap (λ xs. xs ++ map name_at (join_sites finished b ++ top)) (joined_names finished a)
    ∙ ap (λ xs. map name.Join (joins_used (nodes_of a)) ++ xs) (map-append name_at (join_sites finished b) top ∙ ap (λ xs. xs ++ name.Join j ∷ []) (joined_names finished b))
    ∙ sym (ap (map name.Join) (filter_map-append join_in (nodes_of a) (nodes_of b ++ node.Join j ∷ []) ∙ ap (λ xs. joins_used (nodes_of a) ++ xs) (filter_map-append join_in (nodes_of b) (node.Join j ∷ [])))
    ∙ map-append name.Join (joins_used (nodes_of a)) (joins_used (nodes_of b) ++ j ∷ [])
    ∙ ap (λ xs. map name.Join (joins_used (nodes_of a)) ++ xs) (map-append name.Join (joins_used (nodes_of b)) (j ∷ [])))

all_joined_names : (finished : Finished) (fs : List Fragment) → map name_at (all_join_sites finished fs) ≡ map name.Join (joins_used (nodes_in fs))
all_joined_names finished [] = refl
all_joined_names finished (f ∷ fs) =
    map-append name_at (join_sites finished f.tree) (all_join_sites (with_fragment finished f) fs)
    ∙ ap (λ xs. xs ++ map name_at (all_join_sites (with_fragment finished f) fs)) (joined_names finished f.tree)
    ∙ ap (λ xs. map name.Join (joins_used (nodes_of f.tree)) ++ xs) (all_joined_names (with_fragment finished f) fs)
    ∙ sym (ap (map name.Join) (filter_map-append join_in (nodes_of f.tree) (nodes_in fs)) ∙ map-append name.Join (joins_used (nodes_of f.tree)) (joins_used (nodes_in fs)))

pub site_names : (fs : List Fragment) → map name_at (sites fs) ≡ map name.Atom (atoms_used (nodes_in fs)) ++ map name.Join (joins_used (nodes_in fs))
site_names fs =
    map-append name_at (filter_map atom_site (nodes_in fs)) (all_join_sites [] fs)
    ∙ ap (λ xs. xs ++ map name_at (all_join_sites [] fs)) (atom_names (nodes_in fs))
    ∙ ap (λ xs. map name.Atom (atoms_used (nodes_in fs)) ++ xs) (all_joined_names [] fs)

pub sites_apart : (fs : List Fragment) → AreDistinct (atoms_used (nodes_in fs)) → AreDistinct (joins_used (nodes_in fs)) → AreNodesApart (map name_at (sites fs))
sites_apart fs d e = subst AreNodesApart (sym (site_names fs)) (both_named (atoms_used (nodes_in fs)) (joins_used (nodes_in fs)) d e)

-- the names of nodes are those of atoms and those of joins
names_weigh : (v : Name → ℕ) (ns : List Node) → weight_of v (filter_map name_of ns) ≡ weight_of v (map name.Atom (atoms_used ns)) + weight_of v (map name.Join (joins_used ns))
names_weigh v [] = omega arith
names_weigh v (node.Leaf (leaf.Atom a) ∷ ns) = let more = names_weigh v ns in omega (arith, more)
names_weigh v (node.Leaf (leaf.Fragment f) ∷ ns) = names_weigh v ns
names_weigh v (node.Join j ∷ ns) = let more = names_weigh v ns in omega (arith, more)

pub same_names : (fs : List Fragment) → SameBag (filter_map name_of (nodes_in fs)) (map name_at (sites fs))
same_names fs = record {
  weighs = λ v.
      names_weigh v (nodes_in fs)
      ∙ sym (ap (weight_of v) (site_names fs) ∙ weight_of_append v (map name.Atom (atoms_used (nodes_in fs))) (map name.Join (joins_used (nodes_in fs))));
}

-- ---- each place counts once

abbrev pub IsOnceIn : List Name → Name → Type 0
IsOnceIn xs p = (w : ℕ) → weight_of (λ x. cond (same_node p x) w 0) xs ≡ w

none_weighs : (p : Name) (w : ℕ) (xs : List Name) → list_any (same_node p) xs ≡ false → weight_of (λ x. cond (same_node p x) w 0) xs ≡ 0
none_weighs p w [] e = refl
none_weighs p w (x ∷ xs) e =
    let parts = neither (same_node p x) (list_any (same_node p) xs) e in
    let rest = none_weighs p w xs parts.1 in
    ap (λ b. cond b w 0 + weight_of (λ y. cond (same_node p y) w 0) xs) parts.0 ∙ omega (arith, rest)

pub once_in : (p : Name) (xs : List Name) → AreNodesApart xs → list_any (same_node p) xs ≡ true → IsOnceIn xs p
once_in p [] apart e w = absurd (true≢false (sym e))
once_in p (x ∷ xs) apart e w = by (same_node p x) refl (λ h. once_in p xs apart.2 h w) e
  where
    by : (b : Bool) → same_node p x ≡ b → (list_any (same_node p) xs ≡ true → weight_of (λ y. cond (same_node p y) w 0) xs ≡ w) → (b || list_any (same_node p) xs) ≡ true → cond b w 0 + weight_of (λ y. cond (same_node p y) w 0) xs ≡ w
    by true f more h =
        let none : list_any (same_node p) xs ≡ false = ap (λ q. list_any (same_node q) xs) (same_true p x f) ∙ apart.1 in
        let rest = none_weighs p w xs none in omega (arith, rest)
    by false f more h = let rest = more h in omega (arith, rest)

placed_weigh : (v : Comparison → ℕ) (xs : List Name) (cs : List Comparison) (places : List Name) → length places ≡ length cs → AllByRecursion (IsOnceIn xs) places
    → weight_of (λ x. weight_of v (placed_at cs places x)) xs ≡ weight_of v cs
placed_weigh v xs [] places same once = weight_of_nothing xs
placed_weigh v xs (c ∷ cs) [] same once = absurd (omega (arith, same))
placed_weigh v xs (c ∷ cs) (p ∷ places) same once =
    let one : weight_of (λ x. cond (same_node p x) (v c) 0) xs ≡ v c = once.0 (v c) in
    let more = placed_weigh v xs cs places (omega (arith, same)) once.1 in
    weight_of_alike (λ x. weight_of v (placed_at (c ∷ cs) (p ∷ places) x)) (λ x. cond (same_node p x) (v c) 0 + weight_of v (placed_at cs places x)) (λ x. by x (same_node p x)) xs
    ∙ weight_of_sum (λ x. cond (same_node p x) (v c) 0) (λ x. weight_of v (placed_at cs places x)) xs
    ∙ omega (arith, one, more)
  where
    by : (x : Name) (b : Bool) → weight_of v (cond b (c ∷ placed_at cs places x) (placed_at cs places x)) ≡ cond b (v c) 0 + weight_of v (placed_at cs places x)
    by x true = refl
    by x false = omega arith

-- all comparisons, each once, are those at the nodes
pub placed_once : (xs : List Name) (cs : List Comparison) (places : List Name) → length places ≡ length cs → AllByRecursion (IsOnceIn xs) places → SameBag (flat_map (placed_at cs places) xs) cs
placed_once xs cs places same once = record { weighs = λ v. weight_of_flat_map (placed_at cs places) v xs ∙ placed_weigh v xs cs places same once }
