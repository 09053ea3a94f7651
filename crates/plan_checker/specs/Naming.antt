-- Lists with the same names.
use Rattle.std.specs.Prelude.{◌≡◌, ℕ, List}
use Rattle.answer_theory.specs.Solutions.{names}

-- a number stands in the one where it stands in the other
abbrev pub SameNames : List ℕ → List ℕ → Type 0
SameNames ns ms = (n : ℕ) → names ns n ≡ names ms n
