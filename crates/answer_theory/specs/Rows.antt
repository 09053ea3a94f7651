-- Rows as the code keeps them: values in the order of a list of variables.
use Rattle.std.specs.Prelude.{◌≡◌, ⊤, ℕ, ◌==◌, Bool, false, not, cond, List, [], ◌∷◌, ◌++◌, map, filter, Option, Some, None}
use Rattle.answer_theory.specs.Bindings.{Binding}
use Rattle.answer_theory.specs.Solutions.{names}

-- each value with its variable
abbrev pub over : {X : Type 0} → List ℕ → List X → Binding X
over [] row = []
over (v ∷ vs) [] = []
over (v ∷ vs) (x ∷ row) = (v, x) ∷ over vs row

-- the values alone, and the variables alone
abbrev pub values : {X : Type 0} → Binding X → List X
values b = map (λ p. p.1) b

abbrev pub binding_variables : {X : Type 0} → Binding X → List ℕ
binding_variables b = map (λ p. p.0) b

-- no variable stands twice
abbrev pub AreDistinct : List ℕ → Type 0
AreDistinct [] = ⊤
AreDistinct (v ∷ vs) = (names vs v ≡ false) × AreDistinct vs

-- each variable once, where it stands first
abbrev pub first_occurrences : List ℕ → List ℕ
first_occurrences [] = []
first_occurrences (v ∷ vs) = v ∷ filter (λ w. not (w == v)) (first_occurrences vs)

-- the left variables, and then those of the right that the left lacks
abbrev pub glued_variables : List ℕ → List ℕ → List ℕ
glued_variables us vs = us ++ filter (λ v. not (names us v)) vs

-- the values of a right row whose variables the left lacks
abbrev pub lacked_values : {X : Type 0} → List ℕ → List ℕ → List X → List X
lacked_values us [] row = []
lacked_values us (v ∷ vs) [] = []
lacked_values us (v ∷ vs) (x ∷ row) = cond (names us v) (lacked_values us vs row) (x ∷ lacked_values us vs row)

-- the variables of both
abbrev pub shared_variables : List ℕ → List ℕ → List ℕ
shared_variables us vs = filter (λ u. names vs u) us

-- both have a value, and these join
abbrev pub both_join : {X : Type 0} → (X → X → Bool) → Option X → Option X → Bool
both_join joins None y = false
both_join joins (Some x) None = false
both_join joins (Some x) (Some y) = joins x y
