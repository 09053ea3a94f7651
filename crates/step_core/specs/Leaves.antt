-- What an atom of a net does in its turn.
use Rattle.std.specs.Prelude.{◌≡◌, ◌⊎◌, ℕ, false, true, List, length}
use Rattle.med_base.specs.declared.outside.source.Source.{Ghosts as Source}
use Rattle.tuple_core.specs.Values.{RowList}
use Rattle.collect_core.specs.Collecting.{Collecting, work_left}
use Rattle.collect_core.specs.Members.{AreSound, AreTold, AreWithin, HasAccepted, are_settled}
use Rattle.collect_core.specs.Steps.{Falls, Gathers, Steps, StepsHeld, gave}
use Rattle.collect_core.specs.declared.reader.Collected.{Collected}
use Rattle.collect_core.specs.declared.reader.Collected.TheVariants as collected
use Rattle.step_core.specs.Edges.{PutsEnd, PutsRows, SameWaits, Waits}
use Rattle.step_core.specs.Joins.{MayNotClose}
use Rattle.step_core.specs.Nets.{LeafState}
use Rattle.step_core.specs.declared.actor.StepEnd.{StepEnd}
use Rattle.step_core.specs.declared.actor.StepEnd.TheVariants as step_end

-- what a collector's step is for the net
abbrev pub end_by : Collected → StepEnd
end_by (collected.Row row) = step_end.Moved
end_by collected.Moved = step_end.Moved
end_by collected.Still = step_end.Still
end_by collected.NoMemory = step_end.NoMemory

-- what may come of a collector, by one of its members, whose index is told
abbrev pub CollectorActs : Type 0 → Type 1
CollectorActs S = Collecting S → Collecting S → ℕ → Collected → Type 0

-- a turn of the collector, whatever rows were accepted of its members before
pub record CollectorTurn {S M : Type 0} (source : Source S M) (Acts : CollectorActs S) (s t : Collecting S) (index : ℕ) (result : Collected) : Type 0 where
  pub acts : Acts s t index result
  pub gathers : (accepted : List RowList) → HasAccepted source s.members accepted → Gathers source s t index result accepted
  pub falls : Falls result (work_left source s) (work_left source t)
  -- what holds of the collector then
  pub width : length t.columns ≡ length t.select.terms
  pub within : (accepted : List RowList) → HasAccepted source t.members accepted → AreWithin t.columns accepted
  pub told : (accepted : List RowList) → HasAccepted source t.members accepted → AreTold source t.columns t.members accepted
  pub sound : AreSound source t.columns t.members

-- a member had its turn, and what it gave went out
pub record MemberGives {S M : Type 0} (source : Source S M) (Acts : CollectorActs S) (l k : LeafState S) (index : ℕ) (w v : Waits) (end : StepEnd) : Type 0 where
  pub goes_on : w.put ≡ false
  pub result : Collected
  pub turn : CollectorTurn source Acts l.collecting k.collecting index result
  pub atom : k.atom ≡ l.atom
  pub end_is : end ≡ end_by result
  pub put : PutsRows w v (gave result)

-- nothing is to do: the end was put
pub record IsOver {S : Type 0} (l k : LeafState S) (w v : Waits) : Type 0 where
  pub put : w.put ≡ true
  pub same : k ≡ l
  pub out : v ≡ w

-- there was no room on the edge: nothing was done
pub record HasNoRoom {S : Type 0} (l k : LeafState S) (w v : Waits) : Type 0 where
  pub same : k ≡ l
  pub out : SameWaits w v

-- a turn of a member: it moves, or stands still, as the collector does
abbrev pub MemberTurn : {S M : Type 0} → Source S M → CollectorActs S → LeafState S → LeafState S → ℕ → Waits → Waits → StepEnd → Type 0
MemberTurn source Acts l k index w v step_end.Moved = MemberGives source Acts l k index w v step_end.Moved
MemberTurn source Acts l k index w v step_end.Still = IsOver l k w v ⊎ MemberGives source Acts l k index w v step_end.Still
MemberTurn source Acts l k index w v step_end.NoMemory = HasNoRoom l k w v ⊎ MemberGives source Acts l k index w v step_end.NoMemory

-- a step of a member: the next row that it holds is accepted; where none is, its source is pulled once
abbrev pub Pulls : {S M : Type 0} → Source S M → LeafState S → LeafState S → ℕ → Waits → Waits → StepEnd → Type 0
Pulls source l k index w v end = MemberTurn source (Steps source) l k index w v end

-- the next row that a member holds is accepted, if there is one
abbrev pub TakesHeld : {S M : Type 0} → Source S M → LeafState S → LeafState S → ℕ → Waits → Waits → StepEnd → Type 0
TakesHeld source l k index w v end = MemberTurn source (StepsHeld source) l k index w v end

-- each group is settled, and the end was put
pub record ClosesSettled {S : Type 0} (l k : LeafState S) (w v : Waits) : Type 0 where
  pub settled : are_settled l.collecting.members ≡ true
  pub same : k ≡ l
  pub put : PutsEnd w v

abbrev pub ClosesLeaf : {S : Type 0} → LeafState S → LeafState S → Waits → Waits → StepEnd → Type 0
ClosesLeaf l k w v step_end.Moved = ClosesSettled l k w v
ClosesLeaf l k w v step_end.Still = (k ≡ l) × MayNotClose (are_settled l.collecting.members) w v
ClosesLeaf l k w v step_end.NoMemory = ⊥
