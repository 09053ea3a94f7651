-- The nodes where comparisons can be tested are those of the whole tree, with the atoms under them there.
use Rattle.std.proofs.Common.{◌≡◌, ℕ, ◌+◌, ◌==◌, ◌||◌, Bool, true, false, cond, List, [], ◌∷◌, ◌++◌, map, flat_map, append-nil, arith, refl, sym, ap, subst, ◌∙◌, true≢false}
use Rattle.std.proofs.lemmas.Bool.{eqb-true}
use Rattle.std.proofs.lemmas.List.{map-append}
use Rattle.answer_theory.specs.Bags.{SameBag, weight_of}
use Rattle.answer_theory.specs.Rows.{AreDistinct}
use Rattle.answer_theory.specs.Solutions.{names}
use Rattle.answer_theory.proofs.Bags.{weight_of_append, weight_of_flat_map}
use Rattle.answer_theory.proofs.Bools.{nat_eq_self}
use Rattle.med_base.specs.declared.names.Name.TheVariants as name
use Rattle.join_trees.specs.Shapes.{Shape, tip, fork, nodes_of}
use Rattle.join_trees.specs.declared.tree.Leaf.TheVariants as leaf
use Rattle.plan_reader.specs.declared.plan.Fragment.{Fragment}
use Rattle.plan_checker.specs.Covers.{IsMade, expanded}
use Rattle.plan_checker.specs.Places.{Finished, all_join_sites, atoms_in, atoms_under, join_sites, site}
use Rattle.plan_checker.specs.Uses.{fragments_used, nodes_in, numbers_of}
use Rattle.plan_checker.specs.declared.walking.FinishedFragment.{FinishedFragment}
use Rattle.plan_checker.specs.declared.walking.Site.{Site}
use Rattle.plan_checker.proofs.CoverLaws.{AreApart, AreOrdered, AreWeighed, all_named, named_first, named_second, names-append, neither, either_first, tops_weigh, used_in_join}

-- a tree's own joins, each with the atoms under it in the whole
abbrev pub own_sites : (ℕ → Shape) → Shape → List Site
own_sites made (tip l) = []
own_sites made (fork j a b) = own_sites made a ++ (own_sites made b ++ site (name.Join j) (atoms_under [] (expanded made (fork j a b))) ∷ [])

-- what is finished has the atoms of its whole tree
abbrev Fits : Finished → (ℕ → Shape) → List ℕ → Type 0
Fits finished made ks = (k : ℕ) → names ks k ≡ true → atoms_in finished k ≡ atoms_under [] (made k)

left_fits : (finished : Finished) (made : ℕ → Shape) (j : ℕ) (a b : Shape) → Fits finished made (fragments_used (nodes_of (fork j a b))) → Fits finished made (fragments_used (nodes_of a))
left_fits finished made j a b h k e = h k (ap (λ ns. names ns k) (used_in_join (nodes_of a) (nodes_of b) j) ∙ named_first (fragments_used (nodes_of a)) (fragments_used (nodes_of b)) k e)

right_fits : (finished : Finished) (made : ℕ → Shape) (j : ℕ) (a b : Shape) → Fits finished made (fragments_used (nodes_of (fork j a b))) → Fits finished made (fragments_used (nodes_of b))
right_fits finished made j a b h k e = h k (ap (λ ns. names ns k) (used_in_join (nodes_of a) (nodes_of b) j) ∙ named_second (fragments_used (nodes_of a)) (fragments_used (nodes_of b)) k e)

same_under : (finished : Finished) (made : ℕ → Shape) (t : Shape) → Fits finished made (fragments_used (nodes_of t)) → atoms_under finished t ≡ atoms_under [] (expanded made t)
same_under finished made (tip (leaf.Atom a)) h = refl
same_under finished made (tip (leaf.Fragment f)) h = h f (either_first (f == f) false (nat_eq_self f))
same_under finished made (fork j a b) h =
    ap (λ xs. xs ++ atoms_under finished b) (same_under finished made a (left_fits finished made j a b h))
    ∙ ap (λ xs. atoms_under [] (expanded made a) ++ xs) (same_under finished made b (right_fits finished made j a b h))

same_sites : (finished : Finished) (made : ℕ → Shape) (t : Shape) → Fits finished made (fragments_used (nodes_of t)) → join_sites finished t ≡ own_sites made t
same_sites finished made (tip l) h = refl
same_sites finished made (fork j a b) h =
    ap (λ xs. xs ++ (join_sites finished b ++ site (name.Join j) (atoms_under finished (fork j a b)) ∷ [])) (same_sites finished made a (left_fits finished made j a b h))
    ∙ ap (λ xs. own_sites made a ++ (xs ++ site (name.Join j) (atoms_under finished (fork j a b)) ∷ [])) (same_sites finished made b (right_fits finished made j a b h))
    ∙ ap (λ xs. own_sites made a ++ (own_sites made b ++ site (name.Join j) xs ∷ [])) (same_under finished made (fork j a b) h)

-- ---- what is finished, one fragment more

abbrev finished_numbers : Finished → List ℕ
finished_numbers finished = map (λ (e : FinishedFragment). e.number) finished

in_front : (finished more : Finished) (k : ℕ) → names (finished_numbers finished) k ≡ true → atoms_in (finished ++ more) k ≡ atoms_in finished k
in_front [] more k e = absurd (true≢false (sym e))
in_front (f ∷ finished) more k e = by (f.number == k) (λ h. in_front finished more k h) e
  where
    by : (b : Bool) → (names (finished_numbers finished) k ≡ true → atoms_in (finished ++ more) k ≡ atoms_in finished k) → (b || names (finished_numbers finished) k) ≡ true → cond b f.atoms (atoms_in (finished ++ more) k) ≡ cond b f.atoms (atoms_in finished k)
    by true rest h = refl
    by false rest h = rest h

behind : (finished more : Finished) (k : ℕ) → names (finished_numbers finished) k ≡ false → atoms_in (finished ++ more) k ≡ atoms_in more k
behind [] more k e = refl
behind (f ∷ finished) more k e =
    let apart = neither (f.number == k) (names (finished_numbers finished) k) e in
    ap (λ b. cond b f.atoms (atoms_in (finished ++ more) k)) apart.0 ∙ behind finished more k apart.1

pub joined_sites : (made : ℕ → Shape) (finished : Finished) (before : List ℕ) (fs : List Fragment) → finished_numbers finished ≡ before → Fits finished made before → AreApart before (numbers_of fs) → AreDistinct (numbers_of fs) → AreOrdered before fs → IsMade made fs
    → all_join_sites finished fs ≡ flat_map (λ (f : Fragment). own_sites made f.tree) fs
joined_sites made finished before [] numbers fits apart distinct ordered is = refl
joined_sites made finished before (f ∷ fs) numbers fits apart distinct ordered is =
    let used : Fits finished made (fragments_used (nodes_of f.tree)) = λ k e. fits k (all_named before (fragments_used (nodes_of f.tree)) k ordered.0 e) in
    let more : Finished = record { number = f.number; atoms = atoms_under finished f.tree } ∷ [] in
    let named : finished_numbers (finished ++ more) ≡ before ++ f.number ∷ [] = map-append (λ (e : FinishedFragment). e.number) finished more ∙ ap (λ ns. ns ++ f.number ∷ []) numbers in
    let here : atoms_under finished f.tree ≡ atoms_under [] (made f.number) = same_under finished made f.tree used ∙ ap (atoms_under []) (sym is.0) in
    let next : Fits (finished ++ more) made (before ++ f.number ∷ []) = λ k e. by k more here (names before k) refl (sym (names-append before (f.number ∷ []) k) ∙ e) refl in
    ap (λ xs. xs ++ all_join_sites (finished ++ more) fs) (same_sites finished made f.tree used)
    ∙ ap (λ xs. own_sites made f.tree ++ xs) (joined_sites made (finished ++ more) (before ++ f.number ∷ []) fs named next later distinct.1 ordered.1 is.1)
  where
    later : AreApart (before ++ f.number ∷ []) (numbers_of fs)
    later k e = split k (names before k) refl (sym (names-append before (f.number ∷ []) k) ∙ e)
      where
        one : (b : Bool) → (b || false) ≡ true → b ≡ true
        one true h = refl
        one false h = h

        split : (k : ℕ) (b : Bool) → names before k ≡ b → (names before k || ((f.number == k) || false)) ≡ true → names (numbers_of fs) k ≡ false
        split k true g h = (neither (f.number == k) (names (numbers_of fs) k) (apart k g)).1
        split k false g h =
            let same : (f.number == k) ≡ true = one (f.number == k) (ap (λ b. b || ((f.number == k) || false)) (sym g) ∙ h) in
            ap (names (numbers_of fs)) (sym (eqb-true f.number k same)) ∙ distinct.0

    by : (k : ℕ) (more : Finished) → atoms_under finished f.tree ≡ atoms_under [] (made f.number) → (b : Bool) → names before k ≡ b → (names before k || ((f.number == k) || false)) ≡ true
        → more ≡ record { number = f.number; atoms = atoms_under finished f.tree } ∷ [] → atoms_in (finished ++ more) k ≡ atoms_under [] (made k)
    by k more here true g e shape = in_front finished more k (ap (λ ns. names ns k) numbers ∙ g) ∙ fits k g
    by k more here false g e shape =
        let same : (f.number == k) ≡ true = one (f.number == k) (ap (λ b. b || ((f.number == k) || false)) (sym g) ∙ e) in
        behind finished more k (ap (λ ns. names ns k) numbers ∙ g) ∙ ap (λ m. atoms_in m k) shape ∙ ap (λ b. cond b (atoms_under finished f.tree) []) same ∙ here ∙ ap (λ n. atoms_under [] (made n)) (eqb-true f.number k same)
      where
        one : (b : Bool) → (b || false) ≡ true → b ≡ true
        one true h = refl
        one false h = h

-- ---- weights

abbrev site_weight : (Site → ℕ) → (ℕ → Shape) → ℕ → ℕ
site_weight v made n = weight_of v (join_sites [] (made n))

expanded_sites : (v : Site → ℕ) (made : ℕ → Shape) (t : Shape) → weight_of v (join_sites [] (expanded made t)) ≡ weight_of v (own_sites made t) + weight_of (site_weight v made) (fragments_used (nodes_of t))
expanded_sites v made (tip (leaf.Atom a)) = omega arith
expanded_sites v made (tip (leaf.Fragment f)) = omega arith
expanded_sites v made (fork j a b) =
    let m : ℕ → ℕ = site_weight v made in
    let here : Site = site (name.Join j) (atoms_under [] (expanded made (fork j a b))) in
    let left = expanded_sites v made a in
    let right = expanded_sites v made b in
    let whole : weight_of v (join_sites [] (expanded made (fork j a b))) ≡ weight_of v (join_sites [] (expanded made a)) + (weight_of v (join_sites [] (expanded made b)) + (v here + 0)) =
    weight_of_append v (join_sites [] (expanded made a)) (join_sites [] (expanded made b) ++ here ∷ [])
    ∙ ap (λ n. weight_of v (join_sites [] (expanded made a)) + n) (weight_of_append v (join_sites [] (expanded made b)) (here ∷ [])) in
    let own : weight_of v (own_sites made (fork j a b)) ≡ weight_of v (own_sites made a) + (weight_of v (own_sites made b) + (v here + 0)) =
    weight_of_append v (own_sites made a) (own_sites made b ++ here ∷ []) ∙ ap (λ n. weight_of v (own_sites made a) + n) (weight_of_append v (own_sites made b) (here ∷ [])) in
    let used : weight_of m (fragments_used (nodes_of (fork j a b))) ≡ weight_of m (fragments_used (nodes_of a)) + weight_of m (fragments_used (nodes_of b)) =
    ap (weight_of m) (used_in_join (nodes_of a) (nodes_of b) j) ∙ weight_of_append m (fragments_used (nodes_of a)) (fragments_used (nodes_of b)) in
    omega (arith, whole, own, used, left, right)

sites_weigh : (v : Site → ℕ) (made : ℕ → Shape) (fs : List Fragment) → IsMade made fs → AreWeighed (site_weight v made) (λ f. weight_of v (own_sites made f.tree)) fs
sites_weigh v made [] is = tt
sites_weigh v made (f ∷ fs) is = (ap (λ t. weight_of v (join_sites [] t)) is.0 ∙ expanded_sites v made f.tree, sites_weigh v made fs is.1)

-- the joins of the top one's whole tree are those of all fragments
pub whole_sites : (made : ℕ → Shape) (fs : List Fragment) (last : ℕ) → AreApart [] (numbers_of fs) → AreDistinct (numbers_of fs) → AreOrdered [] fs → IsMade made fs
    → SameBag (numbers_of fs) (fragments_used (nodes_in fs) ++ last ∷ []) → SameBag (join_sites [] (made last)) (all_join_sites [] fs)
whole_sites made fs last apart distinct ordered is bag = record {
  weighs = λ v.
      let all : ℕ → ℕ = site_weight v made in
      let own : Fragment → ℕ = λ f. weight_of v (own_sites made f.tree) in
      let none : Fits [] made [] = λ k e. absurd (true≢false (sym e)) in
      let top : weight_of all (last ∷ []) ≡ weight_of own fs + weight_of all [] = tops_weigh all own fs [] (last ∷ []) (sites_weigh v made fs is) (subst (λ ns. SameBag ns (fragments_used (nodes_in fs) ++ last ∷ [])) (sym (append-nil (numbers_of fs))) bag) in
      let there : weight_of v (all_join_sites [] fs) ≡ weight_of own fs = ap (weight_of v) (joined_sites made [] [] fs refl none apart distinct ordered is) ∙ weight_of_flat_map (λ (f : Fragment). own_sites made f.tree) v fs in
      omega (arith, top, there);
}
