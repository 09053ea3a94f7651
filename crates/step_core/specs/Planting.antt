-- What a net is made of: atoms and joins to which nothing has come.
use Rattle.std.specs.Prelude.{◌≡◌, ℕ, ◌<◌, ◌≤◌, List, [], length, All}
use Rattle.std.specs.List.{AllByRecursion}
use Rattle.answer_theory.specs.Rows.{glued_variables}
use Rattle.med_base.specs.declared.outside.source.Source.{Ghosts as Source}
use Rattle.row_match.specs.Patterns.{most_variables, pattern_variables}
use Rattle.row_match.specs.Shapes.{Shape}
use Rattle.join_core.specs.State.{fresh_join}
use Rattle.collect_core.specs.Members.{fresh_members}
use Rattle.collect_core.specs.Selecting.{Select}
use Rattle.step_core.specs.Edges.{IsUnused}
use Rattle.step_core.specs.Nets.{JoinState, LeafState, NetTree, fork, variables}
use Rattle.step_core.specs.Standing.{ArePlaced, Reads, Stands}
use Rattle.step_core.specs.declared.planting.NetAtom.{NetAtom}
use Rattle.step_core.specs.declared.planting.NetJoin.{NetJoin}

-- the numbers of a query's variables are below a limit, so that there are no more than that
abbrev pub AreFew : List ℕ → Type 0
AreFew vs = All (λ v. v < most_variables) vs

-- a term for each column, and no more columns, groups and mirrors than there may be; the comparisons read the atom's own variables
pub record FitsAtom (a : NetAtom) : Type 0 where
  pub width : length a.columns ≡ length a.pattern
  pub short : length a.columns ≤ 64
  pub groups : length a.groups.items ≤ 16
  pub mirrors : AllByRecursion (λ mirrors. length mirrors ≤ 8) a.groups.items
  pub few : AreFew (pattern_variables a.pattern)
  pub reads : Reads (pattern_variables a.pattern) a.comparisons.items

-- the comparisons read variables of the two sides
pub record FitsJoin (us vs : List ℕ) (j : NetJoin) : Type 0 where
  pub buckets : 0 < j.buckets
  pub reads : Reads (glued_variables us vs) j.comparisons.items

abbrev pub selection_of : NetAtom → Select
selection_of a = record { terms = a.pattern; comparisons = a.comparisons.items }

-- the atom, none of whose members was opened
abbrev pub fresh_leaf : {S : Type 0} → NetAtom → LeafState S
fresh_leaf a = record { atom = a.atom; collecting = record { columns = a.columns; select = selection_of a; members = fresh_members a.atom 1 a.groups.items } }

abbrev pub shape_over : List ℕ → List ℕ → Shape
shape_over us vs = record { left = us; right = vs }

-- the join of two sides over these variables, to which nothing has come
pub record IsFreshJoin (us vs : List ℕ) (j : NetJoin) (s : JoinState) : Type 0 where
  pub number : s.number ≡ j.join
  pub joining : s.joining ≡ fresh_join j.buckets (shape_over us vs)
  pub comparisons : s.comparisons ≡ j.comparisons.items
  pub left : IsUnused s.left
  pub right : IsUnused s.right

-- the join of two trees, to which nothing has come
abbrev pub IsFork : {S : Type 0} → NetJoin → NetTree S → NetTree S → NetTree S → Type 0
IsFork j a b t = (s : JoinState) × ((t ≡ fork s a b) × IsFreshJoin (variables a) (variables b) j s)

-- operators that have given nothing, over these variables
pub record IsFresh {S M : Type 0} (source : Source S M) (t : NetTree S) (vs : List ℕ) : Type 0 where
  pub stands : Stands source t []
  pub placed : ArePlaced t
  pub variables : vs ≡ variables t
  pub few : AreFew vs
