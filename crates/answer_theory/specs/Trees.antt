-- Trees of joins over leaves, each node with the test that is placed there.
use Rattle.std.specs.Prelude.{◌≡◌, ⊤, ℕ, Bool, true, ◌&&◌, List, [], ◌∷◌, ◌++◌, All}
use Rattle.answer_theory.specs.Bags.{SameBag}
use Rattle.answer_theory.specs.Bindings.{Binding, first_entries}
use Rattle.answer_theory.specs.Solutions.{chosen_rows, joined_rows, names, Binds, ReadsOnly}

-- A leaf has its variables, its test and its rows. A scan reads the rows of another tree, which stand in a table of that number.
pub data Tree (X : Type 0) : Type 0 where
  Leaf : List ℕ → (Binding X → Bool) → List (Binding X) → Tree X
  Scan : List ℕ → ℕ → Tree X
  Join : (Binding X → Bool) → Tree X → Tree X → Tree X

-- the rows that the tree gives
abbrev pub given_rows : {X : Type 0} → (X → X → Bool) → (ℕ → List (Binding X)) → Tree X → List (Binding X)
given_rows joins tables (Leaf vs test rows) = chosen_rows joins test rows
given_rows joins tables (Scan vs f) = tables f
given_rows joins tables (Join test l r) = joined_rows joins test (given_rows joins tables l) (given_rows joins tables r)

-- its leaves' rows, from left to right
abbrev pub leaves : {X : Type 0} → (ℕ → List (Binding X)) → Tree X → List (List (Binding X))
leaves tables (Leaf vs test rows) = rows ∷ []
leaves tables (Scan vs f) = tables f ∷ []
leaves tables (Join test l r) = leaves tables l ++ leaves tables r

abbrev pub variables : {X : Type 0} → Tree X → List ℕ
variables (Leaf vs test rows) = vs
variables (Scan vs f) = vs
variables (Join test l r) = variables l ++ variables r

-- all tests at once
abbrev pub tests : {X : Type 0} → Tree X → Binding X → Bool
tests (Leaf vs test rows) b = test b
tests (Scan vs f) b = true
tests (Join test l r) b = (tests l b && tests r b) && test b

-- a row that binds the variables, each at one entry
pub record IsRowOf {X : Type 0} (vs : List ℕ) (b : Binding X) : Type 0 where
  pub binds : Binds vs b
  pub once : first_entries b ≡ b

-- the rows of each leaf bind its variables, and each test is placed at a node that binds what it reads
abbrev pub IsPlaced : {X : Type 0} → (ℕ → List (Binding X)) → Tree X → Type 0
IsPlaced tables (Leaf vs test rows) = All (Binds vs) rows × ReadsOnly vs test
IsPlaced tables (Scan vs f) = All (IsRowOf vs) (tables f)
IsPlaced tables (Join test l r) = IsPlaced tables l × IsPlaced tables r × ReadsOnly (variables l ++ variables r) test

-- the tree in which each scan is replaced by the tree of that number
abbrev pub expansion : {X : Type 0} → (ℕ → Tree X) → Tree X → Tree X
expansion trees (Leaf vs test rows) = Leaf vs test rows
expansion trees (Scan vs f) = trees f
expansion trees (Join test l r) = Join test (expansion trees l) (expansion trees r)

-- with nothing in any table
abbrev pub no_tables : {X : Type 0} → ℕ → List (Binding X)
no_tables f = []

-- The table holds, as a bag, what the tree gives; the tree's tests are placed; and it binds at least these variables.
pub record Holds {X : Type 0} (joins : X → X → Bool) (vs : List ℕ) (table : List (Binding X)) (tree : Tree X) : Type 0 where
  pub rows : SameBag table (given_rows joins no_tables tree)
  pub placed : IsPlaced no_tables tree
  pub covers : (v : ℕ) → names vs v ≡ true → names (variables tree) v ≡ true

-- each table that the tree scans holds what the tree of that number gives
abbrev pub ScansHold : {X : Type 0} → (X → X → Bool) → (ℕ → List (Binding X)) → (ℕ → Tree X) → Tree X → Type 0
ScansHold joins tables trees (Leaf vs test rows) = ⊤
ScansHold joins tables trees (Scan vs f) = Holds joins vs (tables f) (trees f)
ScansHold joins tables trees (Join test l r) = ScansHold joins tables trees l × ScansHold joins tables trees r
