-- A worked example, computed on the definitions.
use Rattle.std.proofs.Common.{◌≡◌, ℕ, List, [], ◌∷◌, Some, None, pos, refl}
use Rattle.tuple_core.specs.declared.comparing.Op.TheVariants.{Lt}
use Rattle.tuple_core.specs.declared.value.Value.{Value}
use Rattle.tuple_core.specs.declared.value.Value.TheVariants.{Int}
use Rattle.row_match.specs.declared.pattern.Term.TheVariants.{Constant, Variable}
use Rattle.collect_core.specs.Selecting.{Select, selected_row}
use Rattle.collect_core.specs.Steps.{given_rows}

abbrev int : ℕ → Value
int n = Int (pos n)

abbrev row : ℕ → ℕ → ℕ → ℕ → List Value
row a b c d = int a ∷ int b ∷ int c ∷ int d ∷ []

abbrev pair : ℕ → ℕ → List Value
pair a b = int a ∷ int b ∷ []

-- r(x, x, 3, y), x < y; x and y are 0 and 1
abbrev select : Select
select = record {
  terms = Variable 0 ∷ Variable 0 ∷ Constant (int 3) ∷ Variable 1 ∷ [];
  comparisons = record { left = Variable 0; op = Lt; right = Variable 1 } ∷ [];
}

pub selects : selected_row select (row 1 1 3 5) ≡ Some (pair 1 5)
selects = refl

-- x has two values, the constant isn't there, the comparison doesn't hold
differs : selected_row select (row 1 2 3 5) ≡ None
differs = refl

misses : selected_row select (row 1 1 4 5) ≡ None
misses = refl

fails : selected_row select (row 7 7 3 5) ≡ None
fails = refl

-- of two members
pub gives : given_rows select ((row 1 1 3 5 ∷ row 1 2 3 5 ∷ []) ∷ (row 7 7 3 5 ∷ row 4 4 3 9 ∷ []) ∷ []) ≡ pair 1 5 ∷ pair 4 9 ∷ []
gives = refl
