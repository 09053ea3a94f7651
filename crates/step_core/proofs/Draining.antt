-- A net that is read and drained.
use Rattle.std.proofs.Common.{◌≡◌, ◌<◌, ◌≤◌, true, nat_lt, length, refl, sym, ap, subst, ◌∙◌, arith}
use Rattle.med_base.specs.declared.outside.source.Source.{Ghosts as Source}
use Rattle.tuple_core.specs.Values.{RowList}
use Rattle.step_core.specs.Edges.{IsEmpty, Waits}
use Rattle.step_core.specs.Going.{Goes, then}
use Rattle.step_core.specs.Members.{members_of}
use Rattle.step_core.specs.Nets.{NetState, NetTree}
use Rattle.step_core.specs.Passes.{IsQuiet, NetIsQuiet, has_room, most_waiting}
use Rattle.step_core.specs.Same.{SameOperators}
use Rattle.step_core.specs.Standing.{NetStands}
use Rattle.step_core.specs.Steps.{ListActs}
use Rattle.step_core.specs.Work.{Falls, most_rows, net_left, tree_left}
use Rattle.step_core.specs.declared.actor.StepEnd.{StepEnd}
use Rattle.step_core.specs.declared.actor.StepEnd.TheVariants as step_end
use Rattle.step_core.proofs.Ending.{ends_fall, falls_then, moved_still, then_still}
use Rattle.step_core.proofs.Falling.{with_rows}
use Rattle.step_core.proofs.Obeying.{net_pushed}
use Rattle.step_core.proofs.Running.{GoesOnFrom, falls_more, falls_on}
use Rattle.step_core.proofs.Same.{operators_same, operators_then}

-- ---- turns of operators, for the net

pub net_goes : {S M : Type 0} (source : Source S M) (end : StepEnd) (t u : NetTree S) (w v : Waits) (rows : RowList) → Goes source end t u w v → NetStands source (record { tree = t; edge = w; rows = rows }) → NetStands source (record { tree = u; edge = v; rows = rows })
net_goes source end t u w v rows goes h = net_pushed source t u w v rows h (goes h.gave h.tree).0

pub net_falls : {S M : Type 0} (source : Source S M) (end : StepEnd) (s : NetState S) (t u : NetTree S) (w v : Waits) (rows : RowList) → Goes source end t u w v → record { tree = t; edge = w; rows = rows } ≡ s → NetStands source (record { tree = t; edge = w; rows = rows })
    → Falls end (net_left source s) (net_left source (record { tree = u; edge = v; rows = rows }))
net_falls source end s t u w v rows goes is h = subst (λ n. Falls end (net_left source n) (net_left source (record { tree = u; edge = v; rows = rows }))) is
    (with_rows end (most_rows source t w) (most_rows source u v) (tree_left source t w) (tree_left source u v) (length rows) (goes h.gave h.tree).1)

pub net_same : {S M : Type 0} (source : Source S M) (end : StepEnd) (s : NetState S) (t u : NetTree S) (w v : Waits) (rows : RowList) → Goes source end t u w v → record { tree = t; edge = w; rows = rows } ≡ s → NetStands source (record { tree = t; edge = w; rows = rows }) → SameOperators s.tree u
net_same source end s t u w v rows goes is h = subst (λ n. SameOperators n.tree u) is (goes h.gave h.tree).0.same

-- ---- the list

-- the list took some of what waits on the last edge
pub record HasListed {S M : Type 0} (source : Source S M) (s t : NetState S) (end : StepEnd) : Type 0 where
  pub stands : NetStands source t
  pub tree : t.tree ≡ s.tree
  pub same : end ≡ step_end.Still → t.edge ≡ s.edge
  pub falls : Falls end (net_left source s) (net_left source t)
  pub goes_on : GoesOnFrom end

pub listed_none : {S M : Type 0} (source : Source S M) (s : NetState S) → NetStands source s → HasListed source s s step_end.Still
listed_none source s h = record { stands = h; tree = refl; same = λ e. refl; falls = Prim.omega arith; goes_on = tt }

pub listed_more : {S M : Type 0} (source : Source S M) (s t u : NetState S) (end : StepEnd) → HasListed source s t end → ListActs t u step_end.Moved → NetStands source u → net_left source u < net_left source t → HasListed source s u step_end.Moved
listed_more source s t u end h acts stands falls = record { stands = stands; tree = acts.tree ∙ h.tree; same = λ e. absurd (moved_still e); falls = falls_more end (net_left source s) (net_left source t) (net_left source u) h.goes_on h.falls falls; goes_on = tt }

pub listed_all : {S M : Type 0} (source : Source S M) (s t u : NetState S) (end : StepEnd) → HasListed source s t end → ListActs t u step_end.Still → end ≡ step_end.Still → (u.edge ≡ s.edge) × IsEmpty u.edge
listed_all source s t u end h acts still = (acts.turn.1.1 ∙ h.same still, subst IsEmpty (sym acts.turn.1.1) acts.turn.1.0)

pub listed_falls : {S M : Type 0} (source : Source S M) (s t u : NetState S) (end : StepEnd) → HasListed source s t end → net_left source u ≤ net_left source t → Falls end (net_left source s) (net_left source u)
listed_falls source s t u end h falls = falls_on end (net_left source s) (net_left source t) (net_left source u) h.goes_on h.falls falls

-- ---- both

pub swept_quiet : {S : Type 0} (end first next : StepEnd) (t u : NetState S) → end ≡ then first next → (first ≡ step_end.Still → has_room t.edge ≡ true → IsQuiet t.tree t.edge) → u.tree ≡ t.tree → (next ≡ step_end.Still → (u.edge ≡ t.edge) × IsEmpty u.edge)
    → end ≡ step_end.Still → NetIsQuiet u
swept_quiet {S} end first next t u is quiet tree empty still = record { tree = subst (λ x. IsQuiet x u.edge) (sym tree) (subst (IsQuiet t.tree) (sym listed.0) (quiet both.0 room)); edge = listed.1 }
  where
    both : (first ≡ step_end.Still) × (next ≡ step_end.Still)
    both = then_still first next (sym is ∙ still)

    listed : (u.edge ≡ t.edge) × IsEmpty u.edge
    listed = empty both.1

    room : has_room t.edge ≡ true
    room = subst (λ w. has_room w ≡ true) listed.0 (ap (λ rows. nat_lt (length rows) most_waiting) listed.1.rows)

pub swept_falls : {S M : Type 0} (source : Source S M) (end first next : StepEnd) (s : NetState S) (t u : NetTree S) (w v : Waits) (rows : RowList) (n : NetState S) → end ≡ then first next → Goes source first t u w v → record { tree = t; edge = w; rows = rows } ≡ s
    → NetStands source (record { tree = t; edge = w; rows = rows }) → Falls next (net_left source (record { tree = u; edge = v; rows = rows })) (net_left source n) → Falls end (net_left source s) (net_left source n)
swept_falls source end first next s t u w v rows n is goes same stands falls = ends_fall end (then first next) (net_left source s) (net_left source n) is
    (falls_then first next (net_left source s) (net_left source (record { tree = u; edge = v; rows = rows })) (net_left source n) (net_falls source first s t u w v rows goes same stands) falls)

-- ---- a drain

-- what waited went on for a while
pub record HasDrained {S M : Type 0} (source : Source S M) (s t : NetState S) (end : StepEnd) : Type 0 where
  pub stands : NetStands source t
  pub operators : SameOperators s.tree t.tree
  pub members : members_of t.tree ≡ members_of s.tree
  pub falls : Falls end (net_left source s) (net_left source t)
  pub goes_on : GoesOnFrom end

pub drained_none : {S M : Type 0} (source : Source S M) (s : NetState S) → NetStands source s → HasDrained source s s step_end.Still
drained_none source s h = record { stands = h; operators = operators_same s.tree; members = refl; falls = Prim.omega arith; goes_on = tt }

pub drained_more : {S M : Type 0} (source : Source S M) (s t u : NetState S) (end : StepEnd) → HasDrained source s t end → NetStands source u → SameOperators t.tree u.tree → members_of u.tree ≡ members_of t.tree → net_left source u < net_left source t → HasDrained source s u step_end.Moved
drained_more source s t u end h stands operators members falls =
    record { stands = stands; operators = operators_then s.tree t.tree u.tree h.operators operators; members = members ∙ h.members; falls = falls_more end (net_left source s) (net_left source t) (net_left source u) h.goes_on h.falls falls; goes_on = tt }

pub drained_falls : {S M : Type 0} (source : Source S M) (s t u : NetState S) (end : StepEnd) → HasDrained source s t end → net_left source u ≤ net_left source t → Falls end (net_left source s) (net_left source u)
drained_falls source s t u end h falls = falls_on end (net_left source s) (net_left source t) (net_left source u) h.goes_on h.falls falls
