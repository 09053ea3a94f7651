-- What the parts of a pass are made of: what becomes of one member, and of one edge.
use Rattle.std.specs.Prelude.{◌≡◌, ◌⊎◌, ℕ, zero, suc, false, List, [], ◌∷◌}
use Rattle.med_base.specs.declared.outside.source.Source.{Ghosts as Source}
use Rattle.row_match.specs.declared.shape.Side.{Side}
use Rattle.collect_core.specs.Members.{Member}
use Rattle.collect_core.specs.Selecting.{Select}
use Rattle.step_core.specs.Edges.{Waits}
use Rattle.step_core.specs.Going.{Goes, then}
use Rattle.step_core.specs.Joins.{Takes}
use Rattle.step_core.specs.Nets.{JoinState, LeafState, leaf}
use Rattle.step_core.specs.Passes.{HoldsNone, MemberAccepts, MemberGoesOn, MovesOn, Stood, has_room}
use Rattle.step_core.specs.declared.actor.StepEnd.{StepEnd}
use Rattle.step_core.specs.declared.actor.StepEnd.TheVariants as step_end

-- ---- a member

-- this became of the element at that index; the others are the same
abbrev pub BecomesAt : {X : Type 0} → (X → X → Type 0) → ℕ → List X → List X → Type 0
BecomesAt R n [] ys = ⊥
BecomesAt R n (x ∷ xs) [] = ⊥
BecomesAt R zero (x ∷ xs) (y ∷ ys) = R x y × (ys ≡ xs)
BecomesAt R (suc n) (x ∷ xs) (y ∷ ys) = (y ≡ x) × BecomesAt R n xs ys

-- it accepted what it held, until nothing was held or too many rows waited
abbrev pub AcceptsAll : {S : Type 0} → Waits → Member S → Member S → Type 0
AcceptsAll w m n = MemberAccepts m n × ((has_room w ≡ false) ⊎ HoldsNone n)

-- what became of a member that was to be read
abbrev pub ReadsTo : {S M : Type 0} → Source S M → Select → Waits → StepEnd → Member S → Member S → Type 0
ReadsTo source select w step_end.Moved m n = MovesOn source select m n w
ReadsTo source select w step_end.Still m n = Stood source select m n
ReadsTo source select w step_end.NoMemory m n = MemberGoesOn source m n

-- turns of one member of an atom
pub record ReadsAt {S M : Type 0} (source : Source S M) (Becomes : Member S → Member S → Type 0) (l k : LeafState S) (index : ℕ) (w v : Waits) (end : StepEnd) : Type 0 where
  pub goes : Goes source end (leaf l) (leaf k) w v
  pub select : k.collecting.select ≡ l.collecting.select
  pub members : BecomesAt Becomes index l.collecting.members k.collecting.members
  pub goes_on : v.put ≡ false
  -- no row was taken
  pub fuller : has_room w ≡ false → has_room v ≡ false

-- ---- an edge

-- a join took so many items of an edge, one after another
abbrev pub TakesSome : Side → ℕ → JoinState → JoinState → Waits → Waits → Type 0
TakesSome which zero j k w v = (k ≡ j) × (v ≡ w)
TakesSome which (suc n) j k w v = (i : JoinState) × ((x : Waits) × (TakesSome which n j i w x × Takes which i k x v step_end.Moved))

-- the end of so many turns that moved
abbrev pub moved : ℕ → StepEnd
moved zero = step_end.Still
moved (suc n) = step_end.Moved

-- where a join stops: many rows wait on its edge out, or a turn didn't move
abbrev pub Stops : Side → JoinState → JoinState → Waits → Waits → StepEnd → Type 0
Stops which j k w v step_end.Moved = ⊥
Stops which j k w v step_end.Still = ((has_room w ≡ false) × ((k ≡ j) × (v ≡ w))) ⊎ Takes which j k w v step_end.Still
Stops which j k w v step_end.NoMemory = Takes which j k w v step_end.NoMemory

-- it took items of an edge, up to where it stopped
pub record TakesWhile (which : Side) (j k : JoinState) (w v : Waits) (end : StepEnd) : Type 0 where
  pub count : ℕ
  pub between : JoinState
  pub out : Waits
  pub last : StepEnd
  pub some : TakesSome which count j between w out
  pub stops : Stops which between k out v last
  pub ends : end ≡ then (moved count) last
