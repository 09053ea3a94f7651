-- A comparison that is placed at a node reads variables of the atoms under it.
use Rattle.std.proofs.Common.{◌≡◌, ℕ, ◌-◌, ◌==◌, ◌||◌, ◌&&◌, Bool, true, false, cond, List, [], ◌∷◌, ◌++◌, map, Option, Some, None, refl, sym, ap, subst, ◌∙◌, true≢false}
use Rattle.std.specs.Prelude.{option_map, slice_get}
use Rattle.std.proofs.lemmas.Bool.{eqb-true}
use Rattle.std.specs.List.{AllByRecursion, cons_option, filter_map, find, list_any}
use Rattle.answer_theory.specs.Solutions.{names}
use Rattle.answer_theory.proofs.Held.{occurrences_named}
use Rattle.answer_theory.proofs.Lists.{each_then}
use Rattle.med_base.specs.declared.names.Name.{Name}
use Rattle.row_match.specs.Filters.{comparison_variables}
use Rattle.row_match.specs.Patterns.{term_variables}
use Rattle.row_match.specs.declared.filter.Comparison.{Comparison}
use Rattle.row_match.specs.declared.pattern.Term.{Term}
use Rattle.row_match.specs.declared.pattern.Term.TheVariants.{Constant, Variable}
use Rattle.query_core.specs.declared.query.Atom.{Atom}
use Rattle.plan_checker.specs.Places.{atom_has, binds, binds_term, place_of}
use Rattle.plan_checker.specs.Solving.{atom_variables, placed_at, same_node, terms_variables, variables_under}
use Rattle.plan_checker.specs.Places.{stands_in}
use Rattle.plan_checker.specs.declared.walking.Site.{Site}
use Rattle.plan_checker.proofs.CoverLaws.{either_first, names-append, neither}
use Rattle.plan_checker.proofs.NameLaws.{AreNodesApart, IsOnceIn, name_at, once_in, same_true}
use Rattle.plan_checker.proofs.PlacedLaws.{IsFound, found, named_in}

-- ---- what is found in a list

found_each : {A : Type 0} (P : A → Type 0) (p : A → Bool) (xs : List A) (x : A) → find p xs ≡ Some x → AllByRecursion P xs → P x
found_each P p [] x e all = absurd (cc)
found_each {A} P p (y ∷ ys) x e all = by (p y) (λ h. found_each P p ys x h all.1) e
  where
    some : (y z : A) → Some y ≡ Some z → y ≡ z
    some y z h = cc

    by : (b : Bool) → (find p ys ≡ Some x → P x) → cond b (Some y) (find p ys) ≡ Some x → P x
    by true more h = subst P (some y x h) all.0
    by false more h = more h

found_named : (p : Site → Bool) (ss : List Site) (s : Site) → AreNodesApart (map name_at ss) → find p ss ≡ Some s → list_any (same_node s.name) (map name_at ss) ≡ true
found_named p [] s apart e = absurd (cc)
found_named p (t ∷ ss) s apart e = by (p t) (λ h. found_named p ss s apart.2 h) e
  where
    some : (t u : Site) → Some t ≡ Some u → t ≡ u
    some t u h = cc

    by : (b : Bool) → (find p ss ≡ Some s → list_any (same_node s.name) (map name_at ss) ≡ true) → cond b (Some t) (find p ss) ≡ Some s → (same_node s.name t.name || list_any (same_node s.name) (map name_at ss)) ≡ true
    by true more h =
        subst (λ (u : Site). (same_node u.name t.name || list_any (same_node u.name) (map name_at ss)) ≡ true) (some t s h) (either_first (same_node t.name t.name) (list_any (same_node t.name) (map name_at ss)) apart.0)
    by false more h = second (same_node s.name t.name) (more h)
      where
        second : (b : Bool) → list_any (same_node s.name) (map name_at ss) ≡ true → (b || list_any (same_node s.name) (map name_at ss)) ≡ true
        second true i = refl
        second false i = i

none_same : (x : Name) (ss : List Site) → list_any (same_node x) (map name_at ss) ≡ false → AllByRecursion (λ (t : Site). same_node x t.name ≡ false) ss
none_same x [] e = tt
none_same x (t ∷ ss) e = let parts = neither (same_node x t.name) (list_any (same_node x) (map name_at ss)) e in (parts.0, none_same x ss parts.1)

-- a node of the found one's name is the found one
found_alone : (p : Site → Bool) (ss : List Site) (s : Site) → AreNodesApart (map name_at ss) → find p ss ≡ Some s → AllByRecursion (λ (t : Site). same_node s.name t.name ≡ true → p t ≡ true) ss
found_alone p [] s apart e = tt
found_alone p (x ∷ ss) s apart e = by (p x) refl (λ h. found_alone p ss s apart.2 h) e
  where
    some : (t u : Site) → Some t ≡ Some u → t ≡ u
    some t u h = cc

    no : {P : Type 0} (b : Bool) → b ≡ false → b ≡ true → P
    no b f g = absurd (true≢false (sym g ∙ f))

    by : (b : Bool) → p x ≡ b → (find p ss ≡ Some s → AllByRecursion (λ (t : Site). same_node s.name t.name ≡ true → p t ≡ true) ss) → cond b (Some x) (find p ss) ≡ Some s → AllByRecursion (λ (t : Site). same_node s.name t.name ≡ true → p t ≡ true) (x ∷ ss)
    by true f more h =
        let rest : AllByRecursion (λ (t : Site). same_node s.name t.name ≡ false) ss = subst (λ (u : Site). AllByRecursion (λ (t : Site). same_node u.name t.name ≡ false) ss) (some x s h) (none_same x.name ss apart.1) in
        ((λ g. f), each_then (λ (t : Site). same_node s.name t.name ≡ false) (λ (t : Site). same_node s.name t.name ≡ true → p t ≡ true) (λ t d g. no (same_node s.name t.name) d g) ss rest)
    by false f more h =
        let differs : same_node x.name s.name ≡ false = found_each (λ (t : Site). same_node x.name t.name ≡ false) p ss s h (none_same x.name ss apart.1) in
        let turned : same_node s.name x.name ≡ true → same_node x.name s.name ≡ true = λ g. subst (λ (n : Name). same_node x.name n ≡ true) (sym (same_true s.name x.name g)) apart.0 in
        ((λ g. no (same_node x.name s.name) differs (turned g)), more h)

-- ---- variables under a node

atom_named : (atoms : List Atom) (v a : ℕ) → names (atom_variables atoms a) v ≡ atom_has atoms v a
atom_named atoms v a = by (slice_get atoms (a - 1))
  where
    by : (o : Option Atom) → names (terms_variables o) v ≡ stands_in v o
    by None = refl
    by (Some atom) = occurrences_named (term_variables atom.terms) v ∙ named_in v atom.terms

pub under_named : (atoms : List Atom) (v : ℕ) (under : List ℕ) → names (variables_under atoms under) v ≡ list_any (atom_has atoms v) under
under_named atoms v [] = refl
under_named atoms v (a ∷ under) =
    names-append (atom_variables atoms a) (variables_under atoms under) v
    ∙ ap (λ b. b || names (variables_under atoms under) v) (atom_named atoms v a)
    ∙ ap (λ b. atom_has atoms v a || b) (under_named atoms v under)

both_true : (a b : Bool) → (a && b) ≡ true → (a ≡ true) × (b ≡ true)
both_true true b e = (refl, e)
both_true false b e = absurd (true≢false (sym e))

either : {P : Type 0} (a b : Bool) → (a || b) ≡ true → (a ≡ true → P) → (b ≡ true → P) → P
either true b e f g = f refl
either false b e f g = g e

term_reads : (atoms : List Atom) (s : Site) (t : Term) (v : ℕ) → binds_term atoms s t ≡ true → names (term_variables (t ∷ [])) v ≡ true → names (variables_under atoms s.atoms) v ≡ true
term_reads atoms s (Constant c) v h e = absurd (true≢false (sym e))
term_reads atoms s (Variable w) v h e = by (w == v) refl e
  where
    by : (b : Bool) → (w == v) ≡ b → (b || false) ≡ true → names (variables_under atoms s.atoms) v ≡ true
    by true f g = under_named atoms v s.atoms ∙ subst (λ u. list_any (atom_has atoms u) s.atoms ≡ true) (eqb-true w v f) h
    by false f g = absurd (true≢false (sym g))

two_terms : (t u : Term) → term_variables (t ∷ u ∷ []) ≡ term_variables (t ∷ []) ++ term_variables (u ∷ [])
two_terms (Constant c) u = refl
two_terms (Variable v) u = refl

reads : (atoms : List Atom) (c : Comparison) (s : Site) (v : ℕ) → binds atoms c s ≡ true → names (term_variables (c.left ∷ c.right ∷ [])) v ≡ true → names (variables_under atoms s.atoms) v ≡ true
reads atoms c s v h e =
    let sides = both_true (binds_term atoms s c.left) (binds_term atoms s c.right) h in
    either (names (term_variables (c.left ∷ [])) v) (names (term_variables (c.right ∷ [])) v)
    (sym (ap (λ vs. names vs v) (two_terms c.left c.right) ∙ names-append (term_variables (c.left ∷ [])) (term_variables (c.right ∷ [])) v) ∙ e)
    (term_reads atoms s c.left v sides.0)
    (term_reads atoms s c.right v sides.1)

-- ---- what is placed at a node reads variables under it

abbrev pub AreBound : List Atom → List Comparison → List Name → Site → Type 0
AreBound atoms cs places s = (v : ℕ) → names (comparison_variables (placed_at cs places s.name)) v ≡ true → names (variables_under atoms s.atoms) v ≡ true

each_both : {A : Type 0} (P Q R : A → Type 0) → ((x : A) → P x → Q x → R x) → (xs : List A) → AllByRecursion P xs → AllByRecursion Q xs → AllByRecursion R xs
each_both P Q R h [] p q = tt
each_both P Q R h (x ∷ xs) p q = (h x p.0 q.0, each_both P Q R h xs p.1 q.1)

bound_more : (atoms : List Atom) (c : Comparison) (cs : List Comparison) (p : Name) (places : List Name) (s : Site) → (same_node p s.name ≡ true → binds atoms c s ≡ true) → AreBound atoms cs places s → AreBound atoms (c ∷ cs) (p ∷ places) s
bound_more atoms c cs p places s here more v = by (same_node p s.name) refl
  where
    by : (b : Bool) → same_node p s.name ≡ b → names (comparison_variables (cond b (c ∷ placed_at cs places s.name) (placed_at cs places s.name))) v ≡ true → names (variables_under atoms s.atoms) v ≡ true
    by true f e =
        either (names (term_variables (c.left ∷ c.right ∷ [])) v) (names (comparison_variables (placed_at cs places s.name)) v)
        (sym (names-append (term_variables (c.left ∷ c.right ∷ [])) (comparison_variables (placed_at cs places s.name)) v) ∙ e)
        (reads atoms c s v (here f))
        (more v)
    by false f e = more v e

pub places_bound : (atoms : List Atom) (ss : List Site) (cs : List Comparison) → AreNodesApart (map name_at ss) → AllByRecursion (λ c. list_any (binds atoms c) ss ≡ true) cs
    → AllByRecursion (AreBound atoms cs (filter_map (place_of atoms ss) cs)) ss
places_bound atoms ss [] apart all = nothing ss
  where
    nothing : (ts : List Site) → AllByRecursion (AreBound atoms [] []) ts
    nothing [] = tt
    nothing (t ∷ ts) = ((λ v e. absurd (true≢false (sym e))), nothing ts)
places_bound atoms ss (c ∷ cs) apart all =
    let here : IsFound (binds atoms c) (find (binds atoms c) ss) = found (binds atoms c) ss all.0 in
    let places : List Name = filter_map (place_of atoms ss) cs in
    let is : Option Site → List Name = λ m. cons_option (option_map name_at m) places in
    subst (λ (m : Option Site). AllByRecursion (AreBound atoms (c ∷ cs) (is m)) ss) (sym here.is)
    (each_both (λ (t : Site). same_node here.item.name t.name ≡ true → binds atoms c t ≡ true) (AreBound atoms cs places) (AreBound atoms (c ∷ cs) (here.item.name ∷ places))
    (λ t. bound_more atoms c cs here.item.name places t) ss (found_alone (binds atoms c) ss here.item apart here.is) (places_bound atoms ss cs apart all.1))

-- each place is the name of one of the nodes, once
pub places_once : (atoms : List Atom) (ss : List Site) (cs : List Comparison) → AreNodesApart (map name_at ss) → AllByRecursion (λ c. list_any (binds atoms c) ss ≡ true) cs
    → AllByRecursion (IsOnceIn (map name_at ss)) (filter_map (place_of atoms ss) cs)
places_once atoms ss [] apart all = tt
places_once atoms ss (c ∷ cs) apart all =
    let here : IsFound (binds atoms c) (find (binds atoms c) ss) = found (binds atoms c) ss all.0 in
    let places : List Name = filter_map (place_of atoms ss) cs in
    subst (λ (m : Option Site). AllByRecursion (IsOnceIn (map name_at ss)) (cons_option (option_map name_at m) places)) (sym here.is)
    (once_in here.item.name (map name_at ss) apart (found_named (binds atoms c) ss here.item apart here.is), places_once atoms ss cs apart all.1)
