-- The first broken check is told, at the least that breaks it.
use Rattle.std.proofs.Common.{Bool, List, [], ◌∷◌, Option, Some, None, refl, inl, inr}
use Rattle.text_reading.specs.Checks.{Check, IsExact, IsKept, first_broken, told_first}
use Rattle.text_reading.specs.Order.{IsOrder, least}
use Rattle.text_reading.specs.declared.checks.Broken.{Broken}
use Rattle.text_reading.proofs.OrderLaws.{IsLeast, least_is_least}

module _ {P : Type 0} (up_to : P → P → Bool) (order : IsOrder up_to) where
  exact_rest : (c : Check P) (cs : List (Check P)) (told : Option (Broken P)) → IsKept c → IsExact up_to cs told → IsExact up_to (c ∷ cs) told
  exact_rest c cs None kept rest = (kept, rest)
  exact_rest c cs (Some told) kept rest = inr (kept, rest)

  exact_at : (c : Check P) (cs : List (Check P)) (m : Option P) → IsLeast up_to order c.broken m → IsExact up_to cs (first_broken up_to cs)
      → IsExact up_to (c ∷ cs) (told_first c.why m (first_broken up_to cs))
  exact_at c cs None kept rest = exact_rest c cs (first_broken up_to cs) kept rest
  exact_at c cs (Some p) broken rest = inl (refl, broken.0, broken.1)

  pub exact : (cs : List (Check P)) → IsExact up_to cs (first_broken up_to cs)
  exact [] = tt
  exact (c ∷ cs) = exact_at c cs (least up_to c.broken) (least_is_least up_to order c.broken) (exact cs)
