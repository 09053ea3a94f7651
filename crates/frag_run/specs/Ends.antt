-- How the run of a fragment ends.
use Rattle.std.specs.Prelude.{◌≡◌, ◌≢◌, ◌⊎◌, ⊤, ℕ, ◌≤◌, true, false, Some, None}
use Rattle.std.specs.List.{AllByRecursion}
use Rattle.std.specs.Option.{MatchOption}
use Rattle.med_base.specs.declared.member.MemberState.TheVariants as state
use Rattle.med_base.specs.declared.outside.source.Source.{Ghosts as Source}
use Rattle.csv_wrap.specs.Wrapped.{SameSource}
use Rattle.collect_core.specs.Members.{Member}
use Rattle.collect_core.specs.Reading.{Reader}
use Rattle.step_core.specs.Edges.{Waits}
use Rattle.step_core.specs.Members.{IsFirst, starved_groups, starved_in}
use Rattle.step_core.specs.Nets.{NetState, NetTree, leaf, fork}
use Rattle.step_core.specs.Passes.{AreSettledIn, Becomes, GoesOrIsOver, NetIsQuiet}
use Rattle.frag_run.specs.declared.passes.FragEnd.{FragEnd}
use Rattle.frag_run.specs.declared.passes.FragEnd.TheVariants as frag_end

-- ---- the members

-- Rows were accepted of a source; a reader that is over stays as it is.
pub record ReaderRan {S M : Type 0} (source : Source S M) (old new : Reader S) : Type 0 where
  pub same : SameSource source old.wrapper.source new.wrapper.source
  pub grew : old.accepted ≤ new.accepted
  pub active : old.state ≡ state.Active → GoesOrIsOver new.state
  pub over : old.state ≢ state.Active → new ≡ old

-- a member without a source stays as it is
abbrev pub MemberRan : {S M : Type 0} → Source S M → Member S → Member S → Type 0
MemberRan source m n = Becomes (ReaderRan source) m n

-- the source of a reader that is active answered so often, or more, that nothing is there yet
abbrev pub IsDryReader : {S : Type 0} → ℕ → Reader S → Type 0
IsDryReader rounds r = r.state ≡ state.Active → rounds ≤ r.waited

abbrev pub IsDry : {S : Type 0} → ℕ → Member S → Type 0
IsDry rounds m = MatchOption m.reader ⊤ (IsDryReader rounds)

-- all members are dry, but for those of an atom that has ended
abbrev pub AreDry : {S : Type 0} → ℕ → NetTree S → Waits → Type 0
AreDry rounds (leaf l) w = (w.put ≡ true) ⊎ AllByRecursion (IsDry rounds) l.collecting.members
AreDry rounds (fork j a b) w = AreDry rounds a j.left × AreDry rounds b j.right

-- ---- the ends

-- all rows were given, and no group has only failed members
pub record IsFinished {S : Type 0} (n : NetState S) : Type 0 where
  pub taken : n.edge.taken ≡ true
  pub fed : starved_in n.tree ≡ None

-- In so many passes in a row the source of each active member answered that nothing is there yet. Nothing else is to do, and some group isn't settled, though none has only failed members.
pub record IsStalled {S : Type 0} (rounds : ℕ) (n : NetState S) : Type 0 where
  pub dry : AreDry rounds n.tree n.edge
  pub quiet : NetIsQuiet n
  pub unsettled : AreSettledIn n.tree → ⊥
  pub goes_on : n.edge.taken ≡ false
  pub fed : starved_in n.tree ≡ None

-- what holds at each end
abbrev pub EndsSo : {S : Type 0} → ℕ → NetState S → FragEnd → Type 0
EndsSo limit n frag_end.Finished = IsFinished n
EndsSo limit n (frag_end.Starved group) = (starved_in n.tree ≡ Some group) × IsFirst (starved_groups n.tree) group
EndsSo limit n (frag_end.Stalled rounds) = (rounds ≡ limit) × IsStalled limit n
EndsSo limit n frag_end.NoMemory = ⊤
