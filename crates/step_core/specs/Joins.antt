-- What a join of a net does in its turn.
use Rattle.std.specs.Prelude.{◌≡◌, ◌⊎◌, Bool, false, true, [], ◌∷◌, length, Option, Some, None, cond}
use Rattle.tuple_core.specs.Values.{RowValues}
use Rattle.row_match.specs.declared.shape.Side.{Side}
use Rattle.row_match.specs.declared.shape.Side.TheVariants as side
use Rattle.row_match.specs.Shapes.{vars_of}
use Rattle.join_core.specs.Given.{pairs_pending}
use Rattle.join_core.specs.State.{Joining, arrived, ended, has_ended}
use Rattle.join_core.specs.Steps.{GivesMatch, JoinStep, is_finished, on_side}
use Rattle.step_core.specs.Edges.{IsEmpty, PutsEnd, PutsRows, SameWaits, TakesEnd, TakesFirst, Waits}
use Rattle.step_core.specs.Nets.{JoinState, edge_on, joined_variables, passes}
use Rattle.step_core.specs.Standing.{AreWide, IsWhole}
use Rattle.step_core.specs.declared.actor.StepEnd.{StepEnd}
use Rattle.step_core.specs.declared.actor.StepEnd.TheVariants as step_end
use Rattle.step_core.specs.declared.actor.Turn.{Turn}
use Rattle.step_core.specs.declared.actor.Turn.TheVariants as turn

-- no probe is under way
abbrev pub at_rest : Joining → Joining
at_rest s = record s { probe = None }

-- no match is left of the row that came last
pub record FindsNoMatch (s t : Joining) : Type 0 where
  pub none : pairs_pending s ≡ []
  pub rests : t ≡ at_rest s
  pub step : JoinStep s t [] [] []

abbrev pub with_edge : Side → JoinState → Waits → JoinState
with_edge side.Left j w = record j { left = w }
with_edge side.Right j w = record j { right = w }

-- the next match went out, if it passes
pub record GivesRow (s t : JoinState) (w v : Waits) : Type 0 where
  pub row : RowValues
  pub gives : GivesMatch s.joining t.joining row
  pub step : JoinStep s.joining t.joining [] [] (row ∷ [])
  pub put : PutsRows w v (cond (passes s row) (row ∷ []) [])
  pub wide : length row ≡ length (joined_variables s.joining.shape)
  pub same : t ≡ record s { joining = t.joining }

-- the first row that waits on the edge came to the join
pub record ComesIn (which : Side) (s t : Joining) (w v : Waits) : Type 0 where
  pub row : RowValues
  pub first : TakesFirst w v row
  pub came : t ≡ arrived which s row
  pub step : JoinStep s t (on_side which side.Left (row ∷ [])) (on_side which side.Right (row ∷ [])) []

-- the end of the edge came to the join
pub record EndComes (which : Side) (s t : Joining) (w v : Waits) : Type 0 where
  pub last : TakesEnd w v
  pub ended : t ≡ ended which s
  pub step : JoinStep s t [] [] []

-- what came of the first item of an edge
abbrev pub Feeds : Side → Joining → Joining → Waits → Waits → StepEnd → Type 0
Feeds which s t w v step_end.Moved = ComesIn which s t w v ⊎ EndComes which s t w v
Feeds which s t w v step_end.Still = (t ≡ s) × (IsEmpty w × (v ≡ w))
Feeds which s t w v step_end.NoMemory = (t ≡ s) × SameWaits w v

-- the join as it was, but for the edge and what it fed
pub record FeedsOn (which : Side) (s t : JoinState) (end : StepEnd) : Type 0 where
  pub feeds : Feeds which s.joining t.joining (edge_on which s) (edge_on which t) end
  pub same : t ≡ with_edge which (record s { joining = t.joining }) (edge_on which t)

-- the first item of an edge was taken, where no match was left
pub record TakesItem (which : Side) (s t : JoinState) (w v : Waits) (end : StepEnd) : Type 0 where
  pub between : Joining
  pub no_match : FindsNoMatch s.joining between
  pub feeds : FeedsOn which (record s { joining = between }) t end
  pub out : SameWaits w v

-- memory ran out before anything was done: the join is as it was, and the edge out but for its room
pub record KeepsMatch (s t : JoinState) (w v : Waits) : Type 0 where
  pub same : t ≡ s
  pub out : SameWaits w v

-- One item of an edge: the next match is given; where none is left, the next row is taken, or the end. Still, where no match is left and nothing waits.
abbrev pub Takes : Side → JoinState → JoinState → Waits → Waits → StepEnd → Type 0
Takes which s t w v step_end.Moved = GivesRow s t w v ⊎ TakesItem which s t w v step_end.Moved
Takes which s t w v step_end.Still = TakesItem which s t w v step_end.Still
Takes which s t w v step_end.NoMemory = KeepsMatch s t w v ⊎ TakesItem which s t w v step_end.NoMemory

-- what giving a match does alone; none is the answer where no match is left
abbrev pub GivesOut : JoinState → JoinState → Waits → Waits → Option StepEnd → Type 0
GivesOut s t w v None = FindsNoMatch s.joining t.joining × ((t ≡ record s { joining = t.joining }) × SameWaits w v)
GivesOut s t w v (Some step_end.Moved) = GivesRow s t w v
GivesOut s t w v (Some step_end.Still) = ⊥
GivesOut s t w v (Some step_end.NoMemory) = KeepsMatch s t w v

-- all was given, and the end was put
pub record ClosesAll (s t : JoinState) (w v : Waits) : Type 0 where
  pub whole : IsWhole s.joining
  pub same : t ≡ s
  pub put : PutsEnd w v

-- nothing is to do: the end was put, or not all was given
pub record MayNotClose (finished : Bool) (w v : Waits) : Type 0 where
  pub out : v ≡ w
  pub why : (w.put ≡ true) ⊎ (finished ≡ false)

abbrev pub ClosesJoin : JoinState → JoinState → Waits → Waits → StepEnd → Type 0
ClosesJoin s t w v step_end.Moved = ClosesAll s t w v
ClosesJoin s t w v step_end.Still = (t ≡ s) × MayNotClose (is_finished s.joining) w v
ClosesJoin s t w v step_end.NoMemory = ⊥

abbrev pub JoinTurn : Turn → JoinState → JoinState → Waits → Waits → StepEnd → Type 0
JoinTurn (turn.Take which) s t w v result = Takes which s t w v result
JoinTurn turn.Close s t w v result = ClosesJoin s t w v result

-- rows that wait may come to the join: the side goes on while its end wasn't taken, behind which nothing waits
pub record MayCome (which : Side) (s : Joining) (w : Waits) : Type 0 where
  pub ended : has_ended which s ≡ w.taken
  pub last : w.taken ≡ true → w.rows ≡ []
  pub wide : AreWide (vars_of which s.shape) w.rows

abbrev pub MayTake : Side → JoinState → Type 0
MayTake which j = MayCome which j.joining (edge_on which j)
