-- Worked examples, computed on the definitions.
use Rattle.std.proofs.Common.{◌≡◌, ℕ, List, [], ◌∷◌, pos, codes, refl}
use Rattle.row_match.specs.declared.pattern.Term.TheVariants.{Variable}
use Rattle.tuple_core.specs.declared.value.Value.{Value}
use Rattle.tuple_core.specs.declared.value.Value.TheVariants.{Int, Text}
use Rattle.query_core.specs.Answers.{choices, answer_of}
use Rattle.query_core.specs.declared.query.Query.{Query}

abbrev two : {X : Type 0} → X → X → List X
two x y = x ∷ y ∷ []

-- q(x, z) over two relations of two columns each, joined on y; x, y, z are 0, 1, 2
abbrev by_middle_column : ℕ → ℕ → Query
by_middle_column first second = record {
  head = two 0 2;
  atoms = two (record { relation = first; terms = two (Variable 0) (Variable 1) }) (record { relation = second; terms = two (Variable 1) (Variable 2) });
  comparisons = [];
}

abbrev int : ℕ → Value
int n = Int (pos n)

-- ---- two relations joined on a middle column: q(x, z) over r(x, y) and s(y, z)

abbrev r : List (List Value)
r = two (int 1) (int 10) ∷ two (int 2) (int 20) ∷ two (int 3) (int 30) ∷ []

abbrev s : List (List Value)
s = two (int 20) (Text (codes "b")) ∷ two (int 30) (Text (codes "c")) ∷ two (int 40) (Text (codes "d")) ∷ []

two_choices : choices (by_middle_column 0 1).atoms [] (two r s) ≡ two (two 1 0) (two 2 1)
two_choices = refl

joined_answer : answer_of (by_middle_column 0 1) (two r s) ≡ two (two (int 2) (Text (codes "b"))) (two (int 3) (Text (codes "c")))
joined_answer = refl

-- ---- a relation joined with itself: q(x, z) over e(x, y) and e(y, z)

abbrev e : List (List Value)
e = two (int 1) (int 2) ∷ two (int 2) (int 3) ∷ two (int 2) (int 4) ∷ two (int 3) (int 4) ∷ []

three_choices : choices (by_middle_column 0 0).atoms [] (two e e) ≡ two 0 1 ∷ two 0 2 ∷ two 1 3 ∷ []
three_choices = refl

own_answer : answer_of (by_middle_column 0 0) (two e e) ≡ two (int 1) (int 3) ∷ two (int 1) (int 4) ∷ two (int 2) (int 4) ∷ []
own_answer = refl
