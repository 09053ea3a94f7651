-- A number more in a set.
use Rattle.std.proofs.Common.{◌≡◌, ℕ, ◌==◌, ◌||◌, Bool, true, false, List, [], ◌∷◌, ◌++◌, refl, sym, ap, subst, ◌∙◌}
use Rattle.std.specs.Prelude.{nat_eq, if◌then◌else◌}
use Rattle.std.specs.List.{list_any}
use Rattle.std.proofs.lemmas.Bool.{eqb-true}
use Rattle.indexmap.specs.IndexSet.{insert_key}
use Rattle.answer_theory.specs.Solutions.{names}
use Rattle.plan_checker.proofs.AcceptedLaws.{flipped}
use Rattle.plan_checker.proofs.CoverLaws.{names-append}

pub one_name_more : (keys new rest : List ℕ) (x n : ℕ) → new ≡ insert_key nat_eq keys x → (names new n || names rest n) ≡ (names keys n || names (x ∷ rest) n)
one_name_more keys new rest x n e = ap (λ ks. names ks n || names rest n) e ∙ by (list_any (nat_eq x) keys) refl
  where
    known : (b : Bool) → (x == n) ≡ b → names keys x ≡ true → (names keys n || names rest n) ≡ (names keys n || (b || names rest n))
    known true f g = let there : names keys n ≡ true = subst (λ m. names keys m ≡ true) (eqb-true x n f) g in ap (λ b. b || names rest n) there ∙ sym (ap (λ b. b || true) there)
    known false f g = refl

    move : (a b c : Bool) → ((a || (b || false)) || c) ≡ (a || (b || c))
    move true b c = refl
    move false true c = refl
    move false false c = refl

    by : (b : Bool) → list_any (nat_eq x) keys ≡ b → (names (if b then keys else keys ++ x ∷ []) n || names rest n) ≡ (names keys n || ((x == n) || names rest n))
    by true f = known (x == n) refl (sym (flipped x keys) ∙ f)
    by false f = ap (λ b. b || names rest n) (names-append keys (x ∷ []) n) ∙ move (names keys n) (x == n) (names rest n)
