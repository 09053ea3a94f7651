-- The steps of a net.
use Rattle.std.specs.Prelude.{◌≡◌, ◌⊎◌, ℕ, Bool, false, true, List, [], ◌∷◌, ◌++◌, Some, None}
use Rattle.std.specs.List.{position}
use Rattle.med_base.specs.declared.outside.source.Source.{Ghosts as Source}
use Rattle.tuple_core.specs.Values.{RowList, RowValues}
use Rattle.collect_core.specs.Members.{is_named}
use Rattle.step_core.specs.Edges.{IsEmpty, SameWaits, TakesEnd, TakesFirst, Waits}
use Rattle.step_core.specs.Going.{then}
use Rattle.step_core.specs.Joins.{JoinTurn}
use Rattle.step_core.specs.Leaves.{ClosesLeaf, Pulls}
use Rattle.step_core.specs.Names.{has_actor, is_atom, is_called, join_turn}
use Rattle.step_core.specs.Nets.{JoinState, LeafState, NetState, NetTree, leaf, fork}
use Rattle.step_core.specs.Standing.{NetStands}
use Rattle.step_core.specs.declared.actor.Actor.{Actor}
use Rattle.step_core.specs.declared.actor.Actor.TheVariants as actor
use Rattle.step_core.specs.declared.actor.StepEnd.{StepEnd}
use Rattle.step_core.specs.declared.actor.StepEnd.TheVariants as step_end
use Rattle.step_core.specs.declared.actor.Turn.{Turn}

-- ---- whichever operator it is

-- an atom's turn, with its edge out
abbrev pub LeafActs : {S M : Type 0} → Source S M → LeafState S → LeafState S → Waits → Waits → StepEnd → Type 0
LeafActs source l k w v end = ((index : ℕ) × Pulls source l k index w v end) ⊎ ClosesLeaf l k w v end

-- One operator of the tree has its turn, with its own edges; nothing else changes. The edge out is that of the operator at the top.
abbrev pub TreeActs : {S M : Type 0} → Source S M → NetTree S → NetTree S → Waits → Waits → StepEnd → Type 0
TreeActs {S} source (leaf l) u w v end = (k : LeafState S) × ((u ≡ leaf k) × LeafActs source l k w v end)
TreeActs {S} source (fork j a b) u w v end =
    ((k : JoinState) × ((u ≡ fork k a b) × ((turn : Turn) × JoinTurn turn j k w v end)))
    ⊎ ((v ≡ w) × (((c : NetTree S) × ((x : Waits) × ((u ≡ fork (record j { left = x }) c b) × TreeActs source a c j.left x end)))
    ⊎ ((c : NetTree S) × ((x : Waits) × ((u ≡ fork (record j { right = x }) a c) × TreeActs source b c j.right x end)))))

-- ---- the operator that an actor means

abbrev pub LeafObeys : {S M : Type 0} → Source S M → Actor → LeafState S → LeafState S → Waits → Waits → StepEnd → Type 0
LeafObeys source (actor.Pull m) l k w v end = (index : ℕ) × ((position (is_named m) l.collecting.members ≡ Some index) × Pulls source l k index w v end)
LeafObeys source (actor.Edge x) l k w v end = ⊥
LeafObeys source (actor.Closing x) l k w v end = (is_atom x l.atom ≡ true) × ClosesLeaf l k w v end

-- The operator that the actor means has its turn: the first one, where a join comes before those of its left tree, and these before those of its right tree.
abbrev pub TreeObeys : {S M : Type 0} → Source S M → Actor → NetTree S → NetTree S → Waits → Waits → StepEnd → Type 0
TreeObeys {S} source x (leaf l) u w v end = (k : LeafState S) × ((u ≡ leaf k) × LeafObeys source x l k w v end)
TreeObeys {S} source x (fork j a b) u w v end =
    ((k : JoinState) × ((u ≡ fork k a b) × ((turn : Turn) × ((join_turn x j.number a b ≡ Some turn) × JoinTurn turn j k w v end))))
    ⊎ ((v ≡ w) × (((c : NetTree S) × ((y : Waits) × ((u ≡ fork (record j { left = y }) c b) × ((join_turn x j.number a b ≡ None) × TreeObeys source x a c j.left y end))))
    ⊎ ((c : NetTree S) × ((y : Waits) × ((u ≡ fork (record j { right = y }) a c) × ((join_turn x j.number a b ≡ None) × ((has_actor x a ≡ false) × TreeObeys source x b c j.right y end)))))))

-- ---- the list at the end of the last edge

-- a row was taken into the list
pub record ListTakes (rows more : RowList) (w v : Waits) : Type 0 where
  pub row : RowValues
  pub first : TakesFirst w v row
  pub took : more ≡ rows ++ row ∷ []

-- the first row of the edge was taken into the list; where none waits, the end
abbrev pub ListTurn : RowList → RowList → Waits → Waits → StepEnd → Type 0
ListTurn rows more w v step_end.Moved = ListTakes rows more w v ⊎ ((more ≡ rows) × TakesEnd w v)
ListTurn rows more w v step_end.Still = (more ≡ rows) × (IsEmpty w × (v ≡ w))
ListTurn rows more w v step_end.NoMemory = (more ≡ rows) × SameWaits w v

-- ---- a step of the net

-- the actor means the last edge
abbrev pub is_last_edge : {S : Type 0} → Actor → NetState S → Bool
is_last_edge (actor.Pull m) n = false
is_last_edge (actor.Edge x) n = is_called x n.tree
is_last_edge (actor.Closing x) n = false

-- the list has its turn
pub record ListActs {S : Type 0} (s t : NetState S) (end : StepEnd) : Type 0 where
  pub turn : ListTurn s.rows t.rows s.edge t.edge end
  pub tree : t.tree ≡ s.tree

-- an operator has its turn
pub record OperatorActs {S M : Type 0} (source : Source S M) (x : Actor) (s t : NetState S) (end : StepEnd) : Type 0 where
  pub obeys : TreeObeys source x s.tree t.tree s.edge t.edge end
  pub rows : t.rows ≡ s.rows

-- the actor isn't in the net, and has nothing to do
pub record IsAbsent {S : Type 0} (x : Actor) (s t : NetState S) (end : StepEnd) : Type 0 where
  pub absent : has_actor x s.tree ≡ false
  pub still : end ≡ step_end.Still
  pub same : t ≡ s

-- a step of an actor: what its operator does, and why it does nothing
abbrev pub NetSteps : {S M : Type 0} → Source S M → Actor → NetState S → NetState S → StepEnd → Type 0
NetSteps source x s t end =
    ((is_last_edge x s ≡ true) × ListActs s t end)
    ⊎ ((is_last_edge x s ≡ false) × (OperatorActs source x s t end ⊎ IsAbsent x s t end))

-- what follows a step: nothing after want of memory; else the rest, and it moved where one of them did
abbrev pub GoesOn : {S : Type 0} → StepEnd → NetState S → NetState S → StepEnd → (NetState S → NetState S → StepEnd → Type 0) → Type 0
GoesOn step_end.NoMemory s t end Rest = (t ≡ s) × (end ≡ step_end.NoMemory)
GoesOn step_end.Still s t end Rest = Rest s t end
GoesOn step_end.Moved s t end Rest = (last : StepEnd) × (Rest s t last × (end ≡ then step_end.Moved last))

-- Steps of actors, one after another: all of them, and then what the last part ended with, or up to the first want of memory.
pub record StepsThen {S M : Type 0} (source : Source S M) (x : Actor) (s t : NetState S) (end : StepEnd) (Rest : NetState S → NetState S → StepEnd → Type 0) : Type 0 where
  pub between : NetState S
  pub stands : NetStands source between
  pub first : StepEnd
  pub steps : NetSteps source x s between first
  pub rest : GoesOn first between t end Rest

abbrev pub NetRuns : {S M : Type 0} → Source S M → List Actor → NetState S → NetState S → StepEnd → Type 0
NetRuns source [] s t end = (t ≡ s) × (end ≡ step_end.Still)
NetRuns source (x ∷ xs) s t end = StepsThen source x s t end (NetRuns source xs)
