-- The parts of a pass: each member is read, and what waits goes on as far as it can.
use Rattle.std.specs.Prelude.{◌≡◌, ◌≢◌, ◌⊎◌, ⊤, ℕ, ◌≤◌, Bool, true, false, nat_lt, Some, None, [], length}
use Rattle.std.specs.List.{AllZip}
use Rattle.std.specs.Option.{MatchOption}
use Rattle.med_base.specs.declared.member.MemberState.{MemberState}
use Rattle.med_base.specs.declared.member.MemberState.TheVariants as state
use Rattle.med_base.specs.declared.outside.source.Source.{Ghosts as Source}
use Rattle.csv_wrap.specs.Pulls.{AnswersOnePull}
use Rattle.csv_wrap.specs.Ahead.{HoldsNothing}
use Rattle.csv_wrap.specs.Wrapped.{SameSource, fault_of}
use Rattle.csv_wrap.specs.declared.wrapper.Pulled.{Pulled}
use Rattle.collect_core.specs.Members.{Member, are_settled}
use Rattle.collect_core.specs.Reading.{Reader}
use Rattle.collect_core.specs.Selecting.{Select}
use Rattle.collect_core.specs.Steps.{StepsMember}
use Rattle.collect_core.specs.declared.reader.Collected.{Collected}
use Rattle.collect_core.specs.declared.reader.Collected.TheVariants as collected
use Rattle.join_core.specs.Given.{pairs_left_over}
use Rattle.join_core.specs.Steps.{is_finished}
use Rattle.step_core.specs.Edges.{IsEmpty, SameWaits, Waits}
use Rattle.step_core.specs.Leaves.{end_by}
use Rattle.step_core.specs.Nets.{JoinState, LeafState, NetState, NetTree, leaf, fork}
use Rattle.step_core.specs.declared.actor.StepEnd.TheVariants as step_end

-- ---- the members are read

-- so many rows may wait on an edge before its giver is held back
abbrev pub most_waiting : ℕ
most_waiting = 1024

abbrev pub has_room : Waits → Bool
has_room w = nat_lt (length w.rows) most_waiting

-- a member that is read goes on, or is over; it isn't laid aside
abbrev pub GoesOrIsOver : MemberState → Type 0
GoesOrIsOver state.Idle = ⊥
GoesOrIsOver state.Active = ⊤
GoesOrIsOver state.Paused = ⊥
GoesOrIsOver state.Ended = ⊤
GoesOrIsOver state.Failed = ⊤

-- Rows were accepted of a source, which was pulled once at most; a reader that is over stays as it is.
pub record ReaderGoesOn {S M : Type 0} (source : Source S M) (old new : Reader S) : Type 0 where
  pub same : SameSource source old.wrapper.source new.wrapper.source
  pub once : (new.wrapper.source ≡ old.wrapper.source) ⊎ ((answer : Pulled) × AnswersOnePull source old.wrapper.source new.wrapper.source answer)
  pub grew : old.accepted ≤ new.accepted
  pub active : old.state ≡ state.Active → GoesOrIsOver new.state
  pub over : old.state ≢ state.Active → new ≡ old

-- Rows that were held were accepted of a source, which wasn't pulled; a fault may have been reached behind them.
pub record ReaderAccepts {S : Type 0} (old new : Reader S) : Type 0 where
  pub source_is : new.wrapper.source ≡ old.wrapper.source
  pub grew : old.accepted ≤ new.accepted
  pub state_is : (new.state ≡ old.state) ⊎ (new.state ≡ state.Failed)
  pub over : old.state ≢ state.Active → new ≡ old

-- where a member has no source, it stays as it is; where it has one, this may become of its reader
abbrev pub Becomes : {S : Type 0} → (Reader S → Reader S → Type 0) → Member S → Member S → Type 0
Becomes {S} R m n = MatchOption m.reader (n ≡ m) (λ r. (q : Reader S) × ((n ≡ record m { reader = Some q }) × R r q))

abbrev pub MemberGoesOn : {S M : Type 0} → Source S M → Member S → Member S → Type 0
MemberGoesOn source m n = Becomes (ReaderGoesOn source) m n

abbrev pub MemberAccepts : {S : Type 0} → Member S → Member S → Type 0
MemberAccepts m n = Becomes ReaderAccepts m n

-- nothing is held of it: it isn't active, or no row waits, and its wrapper holds no whole frame and no fault
abbrev pub ReaderHoldsNone : {S : Type 0} → Reader S → Type 0
ReaderHoldsNone r = (r.state ≢ state.Active) ⊎ ((r.waiting ≡ None) × (HoldsNothing r.wrapper.ahead × (fault_of r.wrapper ≡ None)))

abbrev pub HoldsNone : {S : Type 0} → Member S → Type 0
HoldsNone m = MatchOption m.reader ⊤ ReaderHoldsNone

-- it made a step that stood still: where it is active, its source was pulled, and answered that nothing is there yet
abbrev pub Stood : {S M : Type 0} → Source S M → Select → Member S → Member S → Type 0
Stood source select m n = StepsMember source select m n collected.Still

-- it made a step that moved, and accepted what it held then, until nothing was held or too many rows waited on its atom's edge
pub record MovesOn {S M : Type 0} (source : Source S M) (select : Select) (m n : Member S) (w : Waits) : Type 0 where
  pub between : Member S
  pub result : Collected
  pub moved : end_by result ≡ step_end.Moved
  pub step : StepsMember source select m between result
  pub accepts : MemberAccepts between n
  pub stopped : (has_room w ≡ false) ⊎ HoldsNone n

abbrev pub IsRead : {S M : Type 0} → Source S M → Select → Waits → Member S → Member S → Type 0
IsRead source select w m n = Stood source select m n ⊎ MovesOn source select m n w

-- why an atom isn't read: its end was put, or it is held back
abbrev pub IsHeldBack : Waits → Type 0
IsHeldBack w = (w.put ≡ true) ⊎ (has_room w ≡ false)

-- each member of each atom was read, but for those of an atom that isn't read
abbrev pub TreeReads : {S M : Type 0} → Source S M → NetTree S → NetTree S → Waits → Waits → Type 0
TreeReads source (leaf l) (leaf k) w v = IsHeldBack w ⊎ AllZip (IsRead source l.collecting.select v) l.collecting.members k.collecting.members
TreeReads source (leaf l) (fork i c d) w v = ⊥
TreeReads source (fork j a b) (leaf k) w v = ⊥
TreeReads source (fork j a b) (fork i c d) w v = TreeReads source a c j.left i.left × TreeReads source b d j.right i.right

-- the atom isn't read, and is as it was; or each member made a step that stood still
abbrev pub LeafIdles : {S M : Type 0} → Source S M → LeafState S → LeafState S → Waits → Type 0
LeafIdles source l k w = (IsHeldBack w × (k ≡ l)) ⊎ AllZip (Stood source l.collecting.select) l.collecting.members k.collecting.members

-- No member moved: nothing has changed but how often they waited, and how much room the edges have.
abbrev pub TreeIdles : {S M : Type 0} → Source S M → NetTree S → NetTree S → Waits → Waits → Type 0
TreeIdles source (leaf l) (leaf k) w v = SameWaits w v × LeafIdles source l k w
TreeIdles source (leaf l) (fork i c d) w v = ⊥
TreeIdles source (fork j a b) (leaf k) w v = ⊥
TreeIdles source (fork j a b) (fork i c d) w v =
    (v ≡ w) × ((i ≡ record j { left = i.left; right = i.right }) × (TreeIdles source a c j.left i.left × TreeIdles source b d j.right i.right))

-- ---- what waits goes on

-- the end of an operator was put on its edge, or it isn't to be put yet
abbrev pub HasPut : Waits → Bool → Type 0
HasPut w finished = (w.put ≡ true) ⊎ (finished ≡ false)

-- nothing is to do for a join
pub record JoinRests (j : JoinState) (w : Waits) : Type 0 where
  pub left : IsEmpty j.left
  pub right : IsEmpty j.right
  pub no_match : j.joining.probe ≡ None
  pub none_left : pairs_left_over j.joining ≡ []
  pub put : HasPut w (is_finished j.joining)

-- nothing is to do for the operators of the tree
abbrev pub IsQuiet : {S : Type 0} → NetTree S → Waits → Type 0
IsQuiet (leaf l) w = HasPut w (are_settled l.collecting.members)
IsQuiet (fork j a b) w = (IsQuiet a j.left × IsQuiet b j.right) × JoinRests j w

-- Nothing is to do but for members: what they gave has gone as far as it can.
pub record NetIsQuiet {S : Type 0} (n : NetState S) : Type 0 where
  pub tree : IsQuiet n.tree n.edge
  pub edge : IsEmpty n.edge

-- each group of each atom is settled
abbrev pub AreSettledIn : {S : Type 0} → NetTree S → Type 0
AreSettledIn (leaf l) = are_settled l.collecting.members ≡ true
AreSettledIn (fork j a b) = AreSettledIn a × AreSettledIn b
