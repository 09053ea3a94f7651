-- Laws of tests.
use Rattle.std.proofs.Common.{◌≡◌, ℕ, Bool, true, false, cond, not, ◌&&◌, ◌||◌, ◌==◌, refl, sym}
use Rattle.std.proofs.lemmas.Bool.{eqb-true, eq-eqb}

pub and_true : (a : Bool) → (a && true) ≡ a
and_true true = refl
and_true false = refl

pub and_false : (a : Bool) → (a && false) ≡ false
and_false true = refl
and_false false = refl

pub and_comm : (a b : Bool) → (a && b) ≡ (b && a)
and_comm true b = sym (and_true b)
and_comm false b = sym (and_false b)

pub and_assoc : (a b c : Bool) → ((a && b) && c) ≡ (a && (b && c))
and_assoc true b c = refl
and_assoc false b c = refl

pub and_middle : (a b c d : Bool) → ((a && b) && (c && d)) ≡ ((a && c) && (b && d))
and_middle true b true d = refl
and_middle true true false d = refl
and_middle true false false d = refl
and_middle false b c d = refl

pub not_or : (a b : Bool) → not (a || b) ≡ (not a && not b)
not_or true b = refl
not_or false b = refl

-- two tests that are true together are one
pub same_tests : (a b : Bool) → (a ≡ true → b ≡ true) → (b ≡ true → a ≡ true) → a ≡ b
same_tests true true f g = refl
same_tests true false f g = sym (f refl)
same_tests false true f g = g refl
same_tests false false f g = refl

pub nat_eq_sym : (m n : ℕ) → (m == n) ≡ (n == m)
nat_eq_sym m n = same_tests (m == n) (n == m) (λ e. eq-eqb n m (sym (eqb-true m n e))) (λ e. eq-eqb m n (sym (eqb-true n m e)))

pub nat_eq_self : (m : ℕ) → (m == m) ≡ true
nat_eq_self m = eq-eqb m m refl

-- a conjunction whose second part counts only where the first holds
pub and_under : (a b c : Bool) → (a ≡ true → b ≡ c) → (a && b) ≡ (a && c)
and_under true b c h = h refl
and_under false b c h = refl

pub cond_under : {A : Type 0} (t : Bool) (x y z : A) → (t ≡ true → x ≡ y) → cond t x z ≡ cond t y z
cond_under true x y z h = h refl
cond_under false x y z h = refl

pub cond_and : {A : Type 0} (s t : Bool) (x z : A) → cond (s && t) x z ≡ cond s (cond t x z) z
cond_and true t x z = refl
cond_and false t x z = refl
