-- A plan that breaks no check covers its query.
use Rattle.std.proofs.Common.{◌≡◌, ℕ, ◌+◌, ◌&&◌, not, Bool, true, false, List, [], ◌∷◌, ◌++◌, filter, flat_map, map, length, take, Option, Some, None, append_assoc, append-nil, length-append, arith, refl, sym, ap, subst, ◌∙◌, true≢false}
use Rattle.std.specs.Prelude.{nat_eq}
use Rattle.std.specs.List.{AllByRecursion, cons_option, filter_map, list_all}
use Rattle.std.proofs.lemmas.List.Elements.{filter_map-append}
use Rattle.answer_theory.specs.Bags.{SameBag, numbers_from, weight_of}
use Rattle.answer_theory.specs.Solutions.{names}
use Rattle.answer_theory.proofs.Bags.{bag_append, bag_length, bag_trans}
use Rattle.cat_reader.specs.declared.catalogue.Relation.{Relation}
use Rattle.query_core.specs.declared.query.Query.{Query}
use Rattle.join_trees.specs.Shapes.{Shape, no_tree, nodes_of}
use Rattle.join_trees.specs.declared.tree.Leaf.TheVariants as leaf
use Rattle.join_trees.specs.declared.tree.Node.{Node}
use Rattle.join_trees.specs.declared.tree.Node.TheVariants as node
use Rattle.med_base.specs.declared.names.Name.TheVariants as name
use Rattle.med_base.specs.declared.status.Part.TheVariants as part
use Rattle.text_reading.specs.Checks.{IsExact, IsKept, first_broken}
use Rattle.text_reading.specs.Faults.{broken_if, indices_where}
use Rattle.text_reading.proofs.CheckLaws as checks
use Rattle.text_reading.proofs.FaultLaws.{first_empty, map_empty, none_broken, not_broken, rest_empty}
use Rattle.plan_reader.specs.Items.{doubled}
use Rattle.plan_reader.specs.Locations.{in_part, is_up_to, location, location_order}
use Rattle.plan_reader.specs.Own.{own_joins, own_name, rule_name, where_joined_twice, where_named_twice}
use Rattle.plan_reader.specs.Words.{same_text}
use Rattle.plan_reader.specs.declared.plan.Fragment.{Fragment}
use Rattle.plan_reader.specs.declared.plan.Plan.{Plan}
use Rattle.plan_checker.specs.Checking.{checks_of}
use Rattle.plan_checker.specs.Covers.{CoversQuery, IsMade, is_own, last_of, made_after}
use Rattle.plan_checker.specs.Places.{all_join_sites, atom_site, site, sites}
use Rattle.plan_checker.specs.Uses.{atom_numbers, atom_of, atoms_used, early_from, fragment_of, fragments_named, fragments_used, is_atom, is_early, is_missing, is_unknown_group, is_unknown_join, is_used_twice, joins_used, misused_from, names_unknown, nodes_in, numbers_of, where_early, where_missing, where_misused, where_unknown, where_used_twice}
use Rattle.plan_checker.proofs.AcceptedLaws.{all_used, as_wanted, each_atom, last_named, names_apart}
use Rattle.plan_checker.proofs.CoverLaws.{AreOrdered, makes, tops_cover}
use Rattle.plan_checker.proofs.NameLaws.{AreNodesApart, bag_distinct, joins_apart, name_at, sites_apart}
use Rattle.plan_checker.proofs.SiteLaws.{joined_sites, own_sites, whole_sites}

-- ---- bags of what is taken from bags

abbrev taken : {A : Type 0} → (A → ℕ) → Option A → ℕ
taken w None = 0
taken w (Some x) = w x

weight_of_filter_map : {A B : Type 0} (h : A → Option B) (w : B → ℕ) (xs : List A) → weight_of w (filter_map h xs) ≡ weight_of (λ x. taken w (h x)) xs
weight_of_filter_map h w [] = refl
weight_of_filter_map {A} {B} h w (x ∷ xs) = by (h x) (weight_of_filter_map h w xs)
  where
    by : (m : Option B) → weight_of w (filter_map h xs) ≡ weight_of (λ y. taken w (h y)) xs → weight_of w (cons_option m (filter_map h xs)) ≡ taken w m + weight_of (λ y. taken w (h y)) xs
    by None e = omega (arith, e)
    by (Some y) e = ap (λ n. w y + n) e

pub bag_filter_map : {A B : Type 0} (h : A → Option B) {xs ys : List A} → SameBag xs ys → SameBag (filter_map h xs) (filter_map h ys)
bag_filter_map h {xs} {ys} k = record { weighs = λ w. weight_of_filter_map h w xs ∙ k.weighs (λ x. taken w (h x)) ∙ sym (weight_of_filter_map h w ys) }

no_fragments : (ns : List Node) → fragments_used (filter is_own ns) ≡ []
no_fragments [] = refl
no_fragments (node.Leaf (leaf.Atom a) ∷ ns) = no_fragments ns
no_fragments (node.Leaf (leaf.Fragment f) ∷ ns) = no_fragments ns
no_fragments (node.Join j ∷ ns) = no_fragments ns

same_atoms : (ns : List Node) → atoms_used (filter is_own ns) ≡ atoms_used ns
same_atoms [] = refl
same_atoms (node.Leaf (leaf.Atom a) ∷ ns) = ap (λ xs. a ∷ xs) (same_atoms ns)
same_atoms (node.Leaf (leaf.Fragment f) ∷ ns) = same_atoms ns
same_atoms (node.Join j ∷ ns) = same_atoms ns

same_atom_sites : (ns : List Node) → filter_map atom_site (filter is_own ns) ≡ filter_map atom_site ns
same_atom_sites [] = refl
same_atom_sites (node.Leaf (leaf.Atom a) ∷ ns) = ap (λ xs. site (name.Atom a) (a ∷ []) ∷ xs) (same_atom_sites ns)
same_atom_sites (node.Leaf (leaf.Fragment f) ∷ ns) = same_atom_sites ns
same_atom_sites (node.Join j ∷ ns) = same_atom_sites ns

empty_bag : {A : Type 0} (xs : List A) → length xs ≡ 0 → xs ≡ []
empty_bag [] e = refl
empty_bag (x ∷ xs) e = absurd (omega (arith, e))

-- ---- what is named is known

both_hold : (a b : Bool) → not (a && b) ≡ false → (a ≡ true) × (b ≡ true)
both_hold true true e = (refl, refl)
both_hold true false e = absurd (true≢false e)
both_hold false b e = absurd (true≢false e)

all_append : {A : Type 0} (p : A → Bool) (xs ys : List A) → list_all p (xs ++ ys) ≡ (list_all p xs && list_all p ys)
all_append p [] ys = refl
all_append p (x ∷ xs) ys = by (p x) (all_append p xs ys)
  where
    by : (b : Bool) → list_all p (xs ++ ys) ≡ (list_all p xs && list_all p ys) → (b && list_all p (xs ++ ys)) ≡ ((b && list_all p xs) && list_all p ys)
    by true e = e
    by false e = refl

and_both : (a b : Bool) → a ≡ true → b ≡ true → (a && b) ≡ true
and_both a b e f = rw (e, f) refl

and_first : (a b : Bool) → (a && b) ≡ true → a ≡ true
and_first true b e = refl
and_first false b e = e

known_atoms : (atoms : ℕ) (numbers : List ℕ) (fs : List Fragment) → AllByRecursion (λ f. names_unknown atoms numbers f ≡ false) fs → list_all (is_atom atoms) (atoms_used (nodes_in fs)) ≡ true
known_atoms atoms numbers [] all = refl
known_atoms atoms numbers (f ∷ fs) all =
    let here = both_hold (list_all (is_atom atoms) (atoms_used (nodes_of f.tree))) (list_all (names numbers) (fragments_named f)) all.0 in
    ap (list_all (is_atom atoms)) (filter_map-append atom_of (nodes_of f.tree) (nodes_in fs))
    ∙ all_append (is_atom atoms) (atoms_used (nodes_of f.tree)) (atoms_used (nodes_in fs))
    ∙ and_both (list_all (is_atom atoms) (atoms_used (nodes_of f.tree))) (list_all (is_atom atoms) (atoms_used (nodes_in fs))) here.0 (known_atoms atoms numbers fs all.1)

known_fragments : (atoms : ℕ) (numbers : List ℕ) (fs : List Fragment) → AllByRecursion (λ f. names_unknown atoms numbers f ≡ false) fs → list_all (names numbers) (fragments_used (nodes_in fs)) ≡ true
known_fragments atoms numbers [] all = refl
known_fragments atoms numbers (f ∷ fs) all =
    let here = both_hold (list_all (is_atom atoms) (atoms_used (nodes_of f.tree))) (list_all (names numbers) (fragments_named f)) all.0 in
    let named = and_first (list_all (names numbers) (fragments_used (nodes_of f.tree))) (list_all (names numbers) f.after) (sym (all_append (names numbers) (fragments_used (nodes_of f.tree)) f.after) ∙ here.1) in
    ap (list_all (names numbers)) (filter_map-append fragment_of (nodes_of f.tree) (nodes_in fs))
    ∙ all_append (names numbers) (fragments_used (nodes_of f.tree)) (fragments_used (nodes_in fs))
    ∙ and_both (list_all (names numbers) (fragments_used (nodes_of f.tree))) (list_all (names numbers) (fragments_used (nodes_in fs))) named (known_fragments atoms numbers fs all.1)

-- ---- fragments use those before them

front : {A : Type 0} (us vs : List A) → take (length us) (us ++ vs) ≡ us
front [] vs = refl
front (u ∷ us) vs = ap (λ xs. u ∷ xs) (front us vs)

take_front : {A : Type 0} (xs ys : List A) (n : ℕ) → length xs ≡ n → take n (xs ++ ys) ≡ xs
take_front xs ys n e = ap (λ k. take k (xs ++ ys)) (sym e) ∙ front xs ys

ordered : (before : List ℕ) (n : ℕ) (fs : List Fragment) → length before ≡ n → early_from (before ++ numbers_of fs) n fs ≡ [] → AreOrdered before fs
ordered before n [] e early = tt
ordered before n (f ∷ fs) e early =
    let numbers : List ℕ = before ++ f.number ∷ numbers_of fs in
    let late = not_broken (is_early (take n numbers) f) n (first_empty (broken_if (is_early (take n numbers) f) n) (early_from numbers (n + 1) fs) early) in
    let front : take n numbers ≡ before = take_front before (f.number ∷ numbers_of fs) n e in
    let all : list_all (names before) (fragments_named f) ≡ true = unflip (list_all (names before) (fragments_named f)) (ap (λ ns. not (list_all (names ns) (fragments_named f))) (sym front) ∙ late) in
    let here = and_first (list_all (names before) (fragments_used (nodes_of f.tree))) (list_all (names before) f.after) (sym (all_append (names before) (fragments_used (nodes_of f.tree)) f.after) ∙ all) in
    let rest : early_from ((before ++ f.number ∷ []) ++ numbers_of fs) (n + 1) fs ≡ [] =
    ap (λ ns. early_from ns (n + 1) fs) (append_assoc before (f.number ∷ []) (numbers_of fs)) ∙ rest_empty (broken_if (is_early (take n numbers) f) n) (early_from numbers (n + 1) fs) early in
    (here, ordered (before ++ f.number ∷ []) (n + 1) fs (longer e) rest)
  where
    unflip : (b : Bool) → not b ≡ false → b ≡ true
    unflip true h = refl
    unflip false h = absurd (true≢false h)

    longer : length before ≡ n → length (before ++ f.number ∷ []) ≡ n + 1
    longer h = omega (arith, h, length-append before (f.number ∷ []))

-- ---- the plan covers the query

-- Fragments that cover so many atoms: each number stands for its expanded tree, each fragment uses those before it, the
-- nodes where comparisons can be tested differ, and all joins have the atoms under them in the whole.
pub record AreSound (atoms : ℕ) (fs : List Fragment) : Type 0 where
  pub covers : CoversQuery atoms fs
  pub made : IsMade (made_after (λ n. no_tree) fs) fs
  pub ordered : AreOrdered [] fs
  pub apart : AreNodesApart (map name_at (sites fs))
  pub last : names (numbers_of fs) (last_of (numbers_of fs)) ≡ true
  pub joins : all_join_sites [] fs ≡ flat_map (λ (f : Fragment). own_sites (made_after (λ n. no_tree) fs) f.tree) fs

covered : (atoms : ℕ) (f : Fragment) (fs : List Fragment)
    → doubled nat_eq (map own_name (f ∷ fs)) ≡ []
    → doubled nat_eq (map own_joins (f ∷ fs)) ≡ []
    → AllByRecursion (λ g. names_unknown atoms (numbers_of (f ∷ fs)) g ≡ false) (f ∷ fs)
    → indices_where (is_missing (atoms_used (nodes_in (f ∷ fs)))) 0 (numbers_from 1 atoms) ≡ []
    → indices_where (is_used_twice (atoms_used (nodes_in (f ∷ fs)))) 0 (numbers_from 1 atoms) ≡ []
    → misused_from (fragments_used (nodes_in (f ∷ fs))) 0 (numbers_of (f ∷ fs)) ≡ []
    → early_from (numbers_of (f ∷ fs)) 0 (f ∷ fs) ≡ []
    → AreSound atoms (f ∷ fs)
covered atoms f fs twice joined known missing used_twice misused early =
    let all : List Fragment = f ∷ fs in
    let used : List ℕ = fragments_used (nodes_in all) in
    let made : ℕ → Shape = made_after (λ n. no_tree) all in
    let last : ℕ = last_of (numbers_of all) in
    let apart = names_apart [] 0 all twice in
    let before : AreOrdered [] all = ordered [] 0 all refl early in
    let is : IsMade made all = makes (λ n. no_tree) [] all apart.1 apart.0 before in
    let bag : SameBag (numbers_of all) (used ++ last ∷ []) = all_used used f.number (numbers_of fs) apart.0 (as_wanted used 0 (numbers_of all) misused) (known_fragments atoms (numbers_of all) all known) in
    let tops = tops_cover made all [] (last ∷ []) is (subst (λ ns. SameBag ns (used ++ last ∷ [])) (sym (append-nil (numbers_of all))) bag) in
    let nodes : SameBag (nodes_of (made last)) (filter is_own (nodes_in all)) =
    subst (λ ns. SameBag ns (filter is_own (nodes_in all))) (append-nil (nodes_of (made last))) (subst (λ ns. SameBag (nodes_of (made last) ++ []) ns) (append-nil (filter is_own (nodes_in all))) tops) in
    let scans : SameBag (fragments_used (nodes_of (made last))) [] = subst (λ ns. SameBag (fragments_used (nodes_of (made last))) ns) (no_fragments (nodes_in all)) (bag_filter_map fragment_of nodes) in
    let own : SameBag (atoms_used (nodes_of (made last))) (atoms_used (nodes_in all)) = subst (λ ns. SameBag (atoms_used (nodes_of (made last))) ns) (same_atoms (nodes_in all)) (bag_filter_map atom_of nodes) in
    let atom_places : SameBag (filter_map atom_site (nodes_of (made last))) (filter_map atom_site (nodes_in all)) = subst (λ ss. SameBag (filter_map atom_site (nodes_of (made last))) ss) (same_atom_sites (nodes_in all)) (bag_filter_map atom_site nodes) in
    let each : SameBag (atoms_used (nodes_in all)) (numbers_from 1 atoms) = each_atom atoms (atoms_used (nodes_in all)) missing used_twice (known_atoms atoms (numbers_of all) all known) in
    let alone = joins_apart [] 0 all joined in
    let covers : CoversQuery atoms all = record {
      nodes = nodes;
      no_fragment = empty_bag (fragments_used (nodes_of (made last))) (bag_length scans);
      each_atom = bag_trans own each;
      each_site = bag_append atom_places (whole_sites made all last apart.1 apart.0 before is bag);
    } in
    record {
      covers = covers;
      made = is;
      ordered = before;
      apart = sites_apart all (bag_distinct (atoms_used (nodes_in all)) 1 atoms each) alone.0;
      last = last_named f.number (numbers_of fs);
      joins = joined_sites made [] [] all refl (λ k e. absurd (true≢false (sym e))) apart.1 apart.0 before is;
    }

-- each check is kept
record AreKept (query : Query) (p : Plan) : Type 0 where
  twice : doubled nat_eq (map own_name p.fragments) ≡ []
  joined : doubled nat_eq (map own_joins p.fragments) ≡ []
  known : indices_where (names_unknown (length query.atoms) (numbers_of p.fragments)) 0 p.fragments ≡ []
  missing : indices_where (is_missing (atoms_used (nodes_in p.fragments))) 0 (atom_numbers query) ≡ []
  used_twice : indices_where (is_used_twice (atoms_used (nodes_in p.fragments))) 0 (atom_numbers query) ≡ []
  misused : misused_from (fragments_used (nodes_in p.fragments)) 0 (numbers_of p.fragments) ≡ []
  early : early_from (numbers_of p.fragments) 0 p.fragments ≡ []

kept : (query : Query) (catalogue : List Relation) (p : Plan) → first_broken is_up_to (checks_of query catalogue p) ≡ None → AreKept query p
unfolding where_named_twice where_joined_twice where_unknown where_missing where_used_twice where_misused where_early
kept query catalogue p e =
    let all : AllByRecursion IsKept (checks_of query catalogue p) = subst (IsExact is_up_to (checks_of query catalogue p)) e (checks.exact is_up_to location_order (checks_of query catalogue p)) in
    record {
      twice = map_empty (location part.Fragment) (doubled nat_eq (map own_name p.fragments)) (first_empty (in_part part.Fragment (doubled nat_eq (map own_name p.fragments))) (in_part part.Rule (doubled same_text (map rule_name p.rules))) all.0);
      joined = map_empty (location part.Fragment) _ all.1.0;
      known =
          let joins = in_part part.Join (indices_where (is_unknown_join (joins_used (nodes_in p.fragments))) 0 p.joins) in
          let here = in_part part.Fragment (indices_where (names_unknown (length query.atoms) (numbers_of p.fragments)) 0 p.fragments) in
          map_empty (location part.Fragment) _ (first_empty here joins (first_empty (here ++ joins) (in_part part.Group (indices_where (is_unknown_group query catalogue) 0 p.groups)) all.1.1.1.0));
      missing = map_empty (location part.Atom) _ all.1.1.1.1.0;
      used_twice = map_empty (location part.Atom) _ all.1.1.1.1.1.0;
      misused = map_empty (location part.Fragment) _ all.1.1.1.1.1.1.0;
      early = map_empty (location part.Fragment) _ all.1.1.1.1.1.1.1.0;
    }

pub accepted_sound : (query : Query) (catalogue : List Relation) (p : Plan) (f : Fragment) (fs : List Fragment) → p.fragments ≡ f ∷ fs → first_broken is_up_to (checks_of query catalogue p) ≡ None → AreSound (length query.atoms) p.fragments
accepted_sound query catalogue p f fs e none =
    let h = kept query catalogue p none in
    let goal : List Fragment → Type 0 = λ gs. AreSound (length query.atoms) gs in
    subst goal (sym e) (covered (length query.atoms) f fs
    (subst (λ gs. doubled nat_eq (map own_name gs) ≡ []) e h.twice)
    (subst (λ gs. doubled nat_eq (map own_joins gs) ≡ []) e h.joined)
    (none_broken (names_unknown (length query.atoms) (numbers_of (f ∷ fs))) 0 (f ∷ fs) (subst (λ (gs : List Fragment). indices_where (names_unknown (length query.atoms) (numbers_of gs)) 0 gs ≡ []) e h.known))
    (subst (λ gs. indices_where (is_missing (atoms_used (nodes_in gs))) 0 (atom_numbers query) ≡ []) e h.missing)
    (subst (λ gs. indices_where (is_used_twice (atoms_used (nodes_in gs))) 0 (atom_numbers query) ≡ []) e h.used_twice)
    (subst (λ gs. misused_from (fragments_used (nodes_in gs)) 0 (numbers_of gs) ≡ []) e h.misused)
    (subst (λ gs. early_from (numbers_of gs) 0 gs ≡ []) e h.early))
