-- Each comparison of a query that fits its catalogue has a place.
use Rattle.std.proofs.Common.{◌≡◌, ℕ, zero, suc, ◌-◌, ◌==◌, ◌||◌, Bool, true, false, cond, List, [], ◌∷◌, ◌++◌, length, Option, Some, append_assoc, append-nil, length-append, arith, refl, sym, ap, subst, ◌∙◌, true≢false}
use Rattle.std.specs.Prelude.{nat_eq, option_map, slice_get}
use Rattle.std.specs.List.{AllByRecursion, cons_option, filter_map, find, list_any}
use Rattle.std.proofs.lemmas.List.Elements.{filter_map-append}
use Rattle.std.specs.Cmp.{nat_eq_equiv}
use Rattle.std.proofs.lemmas.Map.Views.{list_any-from_Contains}
use Rattle.answer_theory.specs.Bags.{SameBag, numbers_from}
use Rattle.answer_theory.specs.Solutions.{names}
use Rattle.answer_theory.proofs.Bools.{nat_eq_sym}
use Rattle.answer_theory.proofs.Numbers.{bag_any}
use Rattle.med_base.specs.declared.names.Name.{Name}
use Rattle.med_base.specs.declared.names.Name.TheVariants as name
use Rattle.row_match.specs.Filters.{comparison_variables}
use Rattle.row_match.specs.Patterns.{term_variables}
use Rattle.row_match.specs.declared.filter.Comparison.{Comparison}
use Rattle.row_match.specs.declared.pattern.Term.{Term}
use Rattle.row_match.specs.declared.pattern.Term.TheVariants.{Constant, Variable}
use Rattle.query_core.specs.declared.query.Atom.{Atom}
use Rattle.query_core.specs.declared.query.Query.{Query}
use Rattle.query_reader.specs.Fitting.{StandsIn, variables_in}
use Rattle.join_trees.specs.Shapes.{Shape, tip, fork, nodes_of}
use Rattle.join_trees.specs.declared.tree.Leaf.TheVariants as leaf
use Rattle.join_trees.specs.declared.tree.Node.TheVariants as node
use Rattle.plan_reader.specs.declared.plan.Fragment.{Fragment}
use Rattle.plan_checker.specs.Covers.{CoversQuery, sites_of, whole_tree}
use Rattle.plan_checker.specs.Places.{atom_has, atoms_under, binds, binds_term, is_variable, join_sites, place_of, places, site, sites, stands_in}
use Rattle.plan_checker.specs.Uses.{atom_of, atoms_used, fragments_used}
use Rattle.plan_checker.specs.declared.walking.Site.{Site}
use Rattle.plan_checker.proofs.CoverLaws.{either_first, either_second, names-append}

pub named_in : (v : ℕ) (terms : List Term) → names (term_variables terms) v ≡ list_any (is_variable v) terms
named_in v [] = refl
named_in v (Constant c ∷ terms) = named_in v terms
named_in v (Variable w ∷ terms) = ap (λ b. (w == v) || b) (named_in v terms)

abbrev has_term : ℕ → Atom → Bool
has_term v atom = list_any (is_variable v) atom.terms

named_among : (v : ℕ) (atoms : List Atom) → names (variables_in atoms) v ≡ list_any (has_term v) atoms
named_among v [] = refl
named_among v (atom ∷ atoms) =
    names-append (term_variables atom.terms) (variables_in atoms) v ∙ ap (λ b. b || names (variables_in atoms) v) (named_in v atom.terms) ∙ ap (λ b. has_term v atom || b) (named_among v atoms)

get_front : (before : List Atom) (atom : Atom) (atoms : List Atom) (n : ℕ) → length before ≡ n → slice_get (before ++ atom ∷ atoms) n ≡ Some atom
get_front [] atom atoms n e = ap (slice_get (atom ∷ atoms)) (sym e)
get_front (other ∷ before) atom atoms zero e = absurd (omega (arith, e))
get_front (other ∷ before) atom atoms (suc n) e = get_front before atom atoms n (omega (arith, e))

has_numbered : (v : ℕ) (before atoms : List Atom) (n : ℕ) → length before ≡ n → list_any (atom_has (before ++ atoms) v) (numbers_from (suc n) (length atoms)) ≡ list_any (has_term v) atoms
has_numbered v before [] n e = refl
has_numbered v before (atom ∷ atoms) n e =
    let less : suc n - 1 ≡ n = omega arith in
    let here : atom_has (before ++ atom ∷ atoms) v (suc n) ≡ has_term v atom = ap (stands_in v) (ap (slice_get (before ++ atom ∷ atoms)) less ∙ get_front before atom atoms n e) in
    let longer : length (before ++ atom ∷ []) ≡ suc n = omega (arith, e, length-append before (atom ∷ [])) in
    let rest : list_any (atom_has (before ++ atom ∷ atoms) v) (numbers_from (suc (suc n)) (length atoms)) ≡ list_any (has_term v) atoms =
    ap (λ all. list_any (atom_has all v) (numbers_from (suc (suc n)) (length atoms))) (sym (append_assoc before (atom ∷ []) atoms)) ∙ has_numbered v (before ++ atom ∷ []) atoms (suc n) longer in
    ap (λ b. b || list_any (atom_has (before ++ atom ∷ atoms) v) (numbers_from (suc (suc n)) (length atoms))) here ∙ ap (λ b. has_term v atom || b) rest

flipped : (n : ℕ) (ns : List ℕ) → list_any (nat_eq n) ns ≡ names ns n
flipped n [] = refl
flipped n (m ∷ ns) = ap (λ b. b || list_any (nat_eq n) ns) (nat_eq_sym n m) ∙ ap (λ b. (m == n) || b) (flipped n ns)

-- a variable that stands in an atom has an atom's number
stands_numbered : (atoms : List Atom) (v : ℕ) → StandsIn atoms v → list_any (atom_has atoms v) (numbers_from 1 (length atoms)) ≡ true
stands_numbered atoms v h =
    has_numbered v [] atoms 0 refl ∙ sym (named_among v atoms) ∙ sym (flipped v (variables_in atoms)) ∙ list_any-from_Contains nat_eq_equiv v (variables_in atoms) h

-- ---- the top of the whole tree

any_append : {A : Type 0} (p : A → Bool) (xs ys : List A) → list_any p (xs ++ ys) ≡ (list_any p xs || list_any p ys)
any_append p [] ys = refl
any_append p (x ∷ xs) ys = by (p x) (any_append p xs ys)
  where
    by : (b : Bool) → list_any p (xs ++ ys) ≡ (list_any p xs || list_any p ys) → (b || list_any p (xs ++ ys)) ≡ ((b || list_any p xs) || list_any p ys)
    by true e = refl
    by false e = e

any_second : {A : Type 0} (p : A → Bool) (xs ys : List A) → list_any p ys ≡ true → list_any p (xs ++ ys) ≡ true
any_second p xs ys e = any_append p xs ys ∙ either_second (list_any p xs) (list_any p ys) e

used_under : (t : Shape) → atoms_under [] t ≡ atoms_used (nodes_of t)
used_under (tip (leaf.Atom a)) = refl
used_under (tip (leaf.Fragment f)) = refl
used_under (fork j a b) =
    ap (λ xs. xs ++ atoms_under [] b) (used_under a) ∙ ap (λ xs. atoms_used (nodes_of a) ++ xs) (used_under b)
    ∙ sym (filter_map-append atom_of (nodes_of a) (nodes_of b ++ node.Join j ∷ []) ∙ ap (λ xs. atoms_used (nodes_of a) ++ xs) (filter_map-append atom_of (nodes_of b) (node.Join j ∷ []) ∙ append-nil (atoms_used (nodes_of b))))

top_site : (t : Shape) (p : Site → Bool) → fragments_used (nodes_of t) ≡ [] → ((x : Name) → p (site x (atoms_under [] t)) ≡ true) → list_any p (sites_of t) ≡ true
top_site (tip (leaf.Atom a)) p none h = either_first (p (site (name.Atom a) (a ∷ []))) false (h (name.Atom a))
top_site (tip (leaf.Fragment f)) p none h = absurd (cc)
top_site (fork j a b) p none h =
    let top : Site = site (name.Join j) (atoms_under [] (fork j a b)) in
    any_second p _ (join_sites [] (fork j a b)) (any_second p (join_sites [] a) (join_sites [] b ++ top ∷ []) (any_second p (join_sites [] b) (top ∷ []) (either_first (p top) false (h (name.Join j)))))

-- ---- comparisons

all_first : {A : Type 0} (P : A → Type 0) (xs ys : List A) → AllByRecursion P (xs ++ ys) → AllByRecursion P xs
all_first P [] ys h = tt
all_first P (x ∷ xs) ys h = (h.0, all_first P xs ys h.1)

all_rest : {A : Type 0} (P : A → Type 0) (xs ys : List A) → AllByRecursion P (xs ++ ys) → AllByRecursion P ys
all_rest P [] ys h = h
all_rest P (x ∷ xs) ys h = all_rest P xs ys h.1

term_bound : (atoms : List Atom) (x : Name) (under : List ℕ) (t : Term) → SameBag under (numbers_from 1 (length atoms)) → AllByRecursion (StandsIn atoms) (term_variables (t ∷ [])) → binds_term atoms (site x under) t ≡ true
term_bound atoms x under (Constant c) bag h = refl
term_bound atoms x under (Variable v) bag h = bag_any (atom_has atoms v) bag ∙ stands_numbered atoms v h.0

two_terms : (P : ℕ → Type 0) (t u : Term) → AllByRecursion P (term_variables (t ∷ u ∷ [])) → AllByRecursion P (term_variables (t ∷ [])) × AllByRecursion P (term_variables (u ∷ []))
two_terms P (Constant c) u h = (tt, h)
two_terms P (Variable v) u h = ((h.0, tt), h.1)

bound : (atoms : List Atom) (x : Name) (under : List ℕ) (c : Comparison) → SameBag under (numbers_from 1 (length atoms)) → AllByRecursion (StandsIn atoms) (term_variables (c.left ∷ c.right ∷ [])) → binds atoms c (site x under) ≡ true
bound atoms x under c bag h =
    let parts = two_terms (StandsIn atoms) c.left c.right h in
    rw (term_bound atoms x under c.left bag parts.0, term_bound atoms x under c.right bag parts.1) refl

-- what is found among several that has one
pub record IsFound {A : Type 0} (p : A → Bool) (m : Option A) : Type 0 where
  pub item : A
  pub is : m ≡ Some item
  pub holds : p item ≡ true

pub found : {A : Type 0} (p : A → Bool) (xs : List A) → list_any p xs ≡ true → IsFound p (find p xs)
found p [] e = absurd (true≢false (sym e))
found {A} p (x ∷ xs) e = by (p x) refl (λ h. found p xs h) e
  where
    by : (b : Bool) → p x ≡ b → (list_any p xs ≡ true → IsFound p (find p xs)) → (b || list_any p xs) ≡ true → IsFound p (cond b (Some x) (find p xs))
    by true f more h = record { item = x; is = refl; holds = f }
    by false f more h = more h

each_found : (atoms : List Atom) (ss : List Site) (cs : List Comparison) → AllByRecursion (λ c. list_any (binds atoms c) ss ≡ true) cs → length (filter_map (place_of atoms ss) cs) ≡ length cs
each_found atoms ss [] all = refl
each_found atoms ss (c ∷ cs) all =
    let here : IsFound (binds atoms c) (find (binds atoms c) ss) = found (binds atoms c) ss all.0 in
    ap (λ m. length (cons_option (option_map (λ (s : Site). s.name) m) (filter_map (place_of atoms ss) cs))) here.is ∙ ap suc (each_found atoms ss cs all.1)

pub each_bound : (atoms : List Atom) (fs : List Fragment) (cs : List Comparison) → CoversQuery (length atoms) fs → AllByRecursion (StandsIn atoms) (comparison_variables cs) → AllByRecursion (λ c. list_any (binds atoms c) (sites fs) ≡ true) cs
each_bound atoms fs [] covers h = tt
each_bound atoms fs (c ∷ cs) covers h =
    let whole : Shape = whole_tree fs in
    let bag : SameBag (atoms_under [] whole) (numbers_from 1 (length atoms)) = subst (λ ns. SameBag ns (numbers_from 1 (length atoms))) (sym (used_under whole)) covers.each_atom in
    let mine = all_first (StandsIn atoms) (term_variables (c.left ∷ c.right ∷ [])) (comparison_variables cs) h in
    let there : list_any (binds atoms c) (sites_of whole) ≡ true = top_site whole (binds atoms c) covers.no_fragment (λ x. bound atoms x (atoms_under [] whole) c bag mine) in
    (sym (bag_any (binds atoms c) covers.each_site) ∙ there, each_bound atoms fs cs covers (all_rest (StandsIn atoms) (term_variables (c.left ∷ c.right ∷ [])) (comparison_variables cs) h))

pub all_placed : (query : Query) (fs : List Fragment) → CoversQuery (length query.atoms) fs → AllByRecursion (StandsIn query.atoms) (comparison_variables query.comparisons) → length (places query fs) ≡ length query.comparisons
unfolding places
all_placed query fs covers h = each_found query.atoms (sites fs) query.comparisons (each_bound query.atoms fs query.comparisons covers h)
