-- The least of several, by a test of their order.
use Rattle.std.specs.Prelude.{◌≡◌, nat_le, Bool, true, false, List, [], ◌∷◌, Option, Some, None, if◌then◌else◌}
use Rattle.std.proofs.Common.{arith}
use Rattle.std.proofs.lemmas.Bool.Decides.{nat_tests}

-- the test is of a total order
pub record IsOrder {A : Type 0} (up_to : A → A → Bool) : Type 0 where
  pub itself : (x : A) → up_to x x ≡ true
  pub total : (x y : A) → up_to x y ≡ false → up_to y x ≡ true
  pub chain : (x y z : A) → up_to x y ≡ true → up_to y z ≡ true → up_to x z ≡ true

-- the order of numbers
pub nat_order : IsOrder nat_le
nat_order = record {
  itself = λ x. grind (arith, nat_tests);
  total = λ x y h. grind (arith, nat_tests);
  chain = λ x y z h i. grind (arith, nat_tests);
}

-- the lesser of two, where there is one
abbrev pub lesser : {A : Type 0} → (A → A → Bool) → Option A → Option A → Option A
lesser up_to None b = b
lesser up_to (Some x) None = Some x
lesser up_to (Some x) (Some y) = if up_to x y then Some x else Some y

-- the least of a list
abbrev pub least : {A : Type 0} → (A → A → Bool) → List A → Option A
least up_to [] = None
least up_to (x ∷ xs) = lesser up_to (Some x) (least up_to xs)
