-- What is left when some atoms are done, and what a whole plan gives.
use Rattle.std.proofs.Common.{◌≡◌, ℕ, Bool, true, ◌&&◌, List, [], ◌∷◌, ◌++◌, map, All, refl, sym, ap, ap₂, ◌∙◌, subst}
use Rattle.std.specs.List.{AllByRecursion}
use Rattle.std.proofs.lemmas.List.Elements.{recursion_from_All}
use mathlib.Core.Path.{fun_ext}
use Rattle.answer_theory.specs.Bags.{SameBag}
use Rattle.answer_theory.specs.Bindings.{Binding, IsSound, value_of}
use Rattle.answer_theory.specs.Solutions.{combinations, chosen_rows, solutions, Binds, ReadsOnly, ReadsValues, valuations}
use Rattle.answer_theory.specs.Trees.{Tree, given_rows, leaves, tests, IsRowOf, IsPlaced, expansion, no_tables, ScansHold}
use Rattle.answer_theory.proofs.Bags.{bag_refl, bag_trans, bag_from_same, bag_map}
use Rattle.answer_theory.proofs.Lists.{each_then}
use Rattle.answer_theory.proofs.Solutions.{combinations_one, solutions_join}
use Rattle.answer_theory.proofs.Trees.{chosen_again, bag_joined, fragments_solutions}
use Rattle.answer_theory.proofs.Orders.{solutions_reordered}

-- A table that holds the solutions over some leaves stands for these leaves and their test.
pub rest_solutions : {X : Type 0} (joins : X → X → Bool) → IsSound joins → (us vs : List ℕ) (done left w : Binding X → Bool) → ReadsOnly us done → ReadsOnly vs left
    → (table : List (Binding X)) (ls rs : List (List (Binding X))) → All (Binds us) (combinations ls) → All (Binds vs) (combinations rs) → All (IsRowOf us) table → SameBag table (solutions joins done ls)
    → SameBag (solutions joins (λ b. left b && w b) (table ∷ rs)) (solutions joins (λ b. (done b && left b) && w b) (ls ++ rs))
rest_solutions joins s us vs done left w hd hl table ls rs bl br bt e = bag_trans
    (bag_from_same (solutions_join joins s us vs (λ b. true) left w (λ b c k. refl) hl (table ∷ []) rs
    (subst (AllByRecursion (Binds us)) (sym (combinations_one table)) (each_then (IsRowOf us) (Binds us) (λ b i. i.binds) table (recursion_from_All _ table bt))) (recursion_from_All _ (combinations rs) br)))
    (bag_trans (bag_joined joins w
    (bag_trans (bag_from_same (ap (chosen_rows joins (λ b. true)) (combinations_one table) ∙ chosen_again joins us table (recursion_from_All _ table bt))) e)
    (bag_refl (solutions joins left rs)))
    (bag_from_same (sym (solutions_join joins s us vs done left w hd hl ls rs (recursion_from_All _ (combinations ls) bl) (recursion_from_All _ (combinations rs) br)))))

-- What the last tree of a plan gives are the solutions over all atoms, in whatever order its leaves stand.
pub plan_solutions : {X : Type 0} (joins : X → X → Bool) → IsSound joins → (tables : ℕ → List (Binding X)) (trees : ℕ → Tree X) (t : Tree X) → IsPlaced tables t → ScansHold joins tables trees t
    → (test : Binding X → Bool) → ReadsValues test → ((b : Binding X) → tests (expansion trees t) b ≡ test b)
    → (leaf : ℕ → List (Binding X)) (ks js : List ℕ) → leaves no_tables (expansion trees t) ≡ map leaf ks → SameBag ks js
    → SameBag (valuations (given_rows joins tables t)) (valuations (solutions joins test (map leaf js)))
plan_solutions joins s tables trees t p h test r same leaf ks js e b = bag_trans
    (bag_map value_of (bag_trans (fragments_solutions joins tables trees s t p h) (bag_from_same (ap₂ (solutions joins) (fun_ext same) e))))
    (solutions_reordered joins s test r leaf ks js b)
