-- Which variables a test reads.
use Rattle.std.proofs.Common.{◌≡◌, ℕ, Bool, true, ◌&&◌, List, [], ◌∷◌, All, refl, ap₂}
use Rattle.std.specs.List.{list_all, AllByRecursion}
use Rattle.std.proofs.lemmas.List.Elements.{recursion_from_All}
use Rattle.answer_theory.specs.Bindings.{Binding}
use Rattle.answer_theory.specs.Solutions.{names, ReadsOnly, ReadsValues}

pub reads_values : {X : Type 0} (vs : List ℕ) (test : Binding X → Bool) → ReadsOnly vs test → ReadsValues test
reads_values vs test h b c e = h b c (λ v i. e v)

pub reads_both : {X : Type 0} (vs : List ℕ) (p q : Binding X → Bool) → ReadsOnly vs p → ReadsOnly vs q → ReadsOnly vs (λ b. p b && q b)
reads_both vs p q h k b c e = ap₂ (λ s t. s && t) (h b c e) (k b c e)

reads_each : {X C : Type 0} (vs : List ℕ) (test : C → Binding X → Bool) → (cs : List C) → AllByRecursion (λ c. ReadsOnly vs (test c)) cs → ReadsOnly vs (λ b. list_all (λ c. test c b) cs)
reads_each vs test [] all b d e = refl
reads_each vs test (c ∷ cs) all b d e = ap₂ (λ s t. s && t) (all.0 b d e) (reads_each vs test cs all.1 b d e)

-- all of a list of tests, such as the comparisons that are placed at a node
pub reads_all : {X C : Type 0} (vs : List ℕ) (test : C → Binding X → Bool) (cs : List C) → All (λ c. ReadsOnly vs (test c)) cs → ReadsOnly vs (λ b. list_all (λ c. test c b) cs)
reads_all vs test cs all = reads_each vs test cs (recursion_from_All _ cs all)

-- a test that reads some variables reads more of them
pub reads_more : {X : Type 0} (vs ws : List ℕ) (test : Binding X → Bool) → ReadsOnly vs test → ((v : ℕ) → names vs v ≡ true → names ws v ≡ true) → ReadsOnly ws test
reads_more vs ws test h more b c e = h b c (λ v i. e v (more v i))
