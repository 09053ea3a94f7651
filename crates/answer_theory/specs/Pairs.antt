-- Pairs of rows of two sides.
use Rattle.std.specs.Prelude.{◌≡◌, Bool, List, flat_map, All}
use Rattle.answer_theory.specs.Solutions.{only}

-- a row of the left with one of the right, where the test holds of the two
abbrev pub pairs : {L R : Type 0} → (L → R → Bool) → List L → List R → List (L × R)
pairs {L} {R} test ls rs = flat_map (λ l. flat_map (λ r. only {X = L × R} (test l r) (l, r)) rs) ls

-- the tests answer alike for each row of the left with each of the right
abbrev pub AlikeOn : {L R : Type 0} → List L → List R → (L → R → Bool) → (L → R → Bool) → Type 0
AlikeOn ls rs p q = All (λ l. All (λ r. p l r ≡ q l r) rs) ls
