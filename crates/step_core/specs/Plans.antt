-- A tree of joins with its atoms and its joins, and the operators that are made of it.
use Rattle.std.specs.Prelude.{◌≡◌, ⊤, ℕ, List, [], ◌∷◌, ◌++◌}
use Rattle.answer_theory.specs.Rows.{glued_variables}
use Rattle.row_match.specs.Patterns.{pattern_variables}
use Rattle.join_trees.specs.Shapes.{Shape, tip, fork as forked}
use Rattle.join_trees.specs.declared.tree.Node.{Node}
use Rattle.join_trees.specs.declared.tree.Node.TheVariants as node
use Rattle.step_core.specs.Nets.{NetTree, leaf, variables}
use Rattle.step_core.specs.Planting.{FitsAtom, FitsJoin, IsFork, fresh_leaf}
use Rattle.step_core.specs.declared.planting.NetAtom.{NetAtom}
use Rattle.step_core.specs.declared.planting.NetJoin.{NetJoin}

-- an atom, or a join of two
pub data Plan : Type 0 where
  at : NetAtom → Plan
  both : NetJoin → Plan → Plan → Plan

-- It is a tree of that shape. The numbers of the tree's leaves and joins are names that the plan needn't share.
abbrev pub HasShape : Plan → Shape → Type 0
HasShape (at a) (tip l) = ⊤
HasShape (at a) (forked n s t) = ⊥
HasShape (both j p q) (tip l) = ⊥
HasShape (both j p q) (forked n s t) = HasShape p s × HasShape q t

-- its atoms from left to right
abbrev pub atoms_of : Plan → List NetAtom
atoms_of (at a) = a ∷ []
atoms_of (both j p q) = atoms_of p ++ atoms_of q

-- its joins: those of a left tree before those of a right one, and then their join
abbrev pub joins_of : Plan → List NetJoin
joins_of (at a) = []
joins_of (both j p q) = joins_of p ++ (joins_of q ++ j ∷ [])

-- the plan has that shape, these atoms and these joins
pub record IsPlanOf (tree : Shape) (leaves : List NetAtom) (forks : List NetJoin) (p : Plan) : Type 0 where
  pub shape : HasShape p tree
  pub atoms : atoms_of p ≡ leaves
  pub joins : joins_of p ≡ forks

-- the variables of the rows that it gives
abbrev pub plan_variables : Plan → List ℕ
plan_variables (at a) = pattern_variables a.pattern
plan_variables (both j p q) = glued_variables (plan_variables p) (plan_variables q)

-- all its atoms and joins can be made
abbrev pub FitsPlan : Plan → Type 0
FitsPlan (at a) = FitsAtom a
FitsPlan (both j p q) = FitsPlan p × (FitsPlan q × FitsJoin (plan_variables p) (plan_variables q) j)

-- the operators of the plan, to which nothing has come
abbrev pub IsPlanted : {S : Type 0} → Plan → NetTree S → Type 0
IsPlanted {S} (at a) t = t ≡ leaf (fresh_leaf a)
IsPlanted {S} (both j p q) t = (a : NetTree S) × ((b : NetTree S) × (IsPlanted p a × (IsPlanted q b × IsFork j a b t)))

-- ---- the parts of the call that makes them, for its own proofs

-- the first atom can be made
pub record HasAtom (atoms : List NetAtom) : Type 0 where
  pub atom : NetAtom
  pub rest : List NetAtom
  pub is : atoms ≡ atom ∷ rest
  pub fits : FitsAtom atom

-- the first atom was made, and lies on top
pub record AddsAtom {S : Type 0} (old new : List (NetTree S)) (atoms rest : List NetAtom) : Type 0 where
  pub atom : NetAtom
  pub is : atoms ≡ atom ∷ rest
  pub added : new ≡ leaf (fresh_leaf atom) ∷ old

-- the first join of the two on top can be made
pub record HasJoin {S : Type 0} (trees : List (NetTree S)) (joins : List NetJoin) : Type 0 where
  pub join : NetJoin
  pub rest : List NetJoin
  pub is : joins ≡ join ∷ rest
  pub left : NetTree S
  pub right : NetTree S
  pub below : List (NetTree S)
  pub top : trees ≡ right ∷ left ∷ below
  pub fits : FitsJoin (variables left) (variables right) join

-- the first join was made of the two on top, in whose place it lies
pub record AddsJoin {S : Type 0} (old new : List (NetTree S)) (joins rest : List NetJoin) : Type 0 where
  pub join : NetJoin
  pub is : joins ≡ join ∷ rest
  pub left : NetTree S
  pub right : NetTree S
  pub below : List (NetTree S)
  pub top : old ≡ right ∷ left ∷ below
  pub made : NetTree S
  pub fork : IsFork join left right made
  pub added : new ≡ made ∷ below

-- what the node stands for can be made
abbrev pub HasPiece : {S : Type 0} → Node → List (NetTree S) → List NetAtom → List NetJoin → Type 0
HasPiece (node.Leaf l) trees atoms joins = HasAtom atoms
HasPiece (node.Join n) trees atoms joins = HasJoin trees joins

-- it was made
abbrev pub AddsPiece : {S : Type 0} → Node → List (NetTree S) → List (NetTree S) → List NetAtom → List NetAtom → List NetJoin → List NetJoin → Type 0
AddsPiece (node.Leaf l) old new atoms atoms_left joins joins_left = AddsAtom old new atoms atoms_left × (joins_left ≡ joins)
AddsPiece (node.Join n) old new atoms atoms_left joins joins_left = AddsJoin old new joins joins_left × (atoms_left ≡ atoms)
