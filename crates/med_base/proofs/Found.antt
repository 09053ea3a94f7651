-- What a search in a list finds.
use Rattle.std.proofs.Common.{Bool, true, false, List, [], ◌∷◌, arith}
use Rattle.std.specs.Prelude.{All, find, cond, Some, IfSome}
use Rattle.std.proofs.lemmas.List.Elements.{All-tail}

-- what holds of each item holds of the one that is found
pub holds_of_found : {X : Type 0} → (P : X → Type 0) (test : X → Bool) (xs : List X) → All P xs → IfSome (find test xs) P
holds_of_found P test [] all = tt
holds_of_found P test (x ∷ xs) all =
    elim (test x) as (λ b. IfSome (cond b (Some x) (find test xs)) P) [
      | true ↦ all 0 x (omega arith)
      | false ↦ holds_of_found P test xs (All-tail P x xs all)
    ]
