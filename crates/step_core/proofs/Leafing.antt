-- The turns of an atom's members.
use Rattle.std.proofs.Common.{◌≡◌, inl, inr, ℕ, ◌+◌, suc, [], ◌<◌, ◌≤◌, ◌++◌, Bool, true, false, nat_lt, List, length, set, Some, refl, sym, ap, subst, ◌∙◌, append-nil, length-append, arith}
use Rattle.std.specs.Prelude.{◌≢◌, ◌⊎◌}
use Rattle.std.specs.List.{AllZip, slice_get}
use Rattle.std.proofs.lemmas.Bool.{false≢true, le-ltb, ltb-false}
use Rattle.med_base.specs.declared.outside.source.Source.{Ghosts as Source}
use Rattle.tuple_core.specs.Values.{RowList}
use Rattle.collect_core.specs.Collecting.{work_left}
use Rattle.collect_core.specs.Members.{Member}
use Rattle.collect_core.specs.Selecting.{Select}
use Rattle.collect_core.specs.Steps.{AcceptsHeld, Falls as CollectorFalls, Steps, StepsHeld, StepsMember, gave}
use Rattle.collect_core.specs.declared.reader.Collected.{Collected}
use Rattle.collect_core.specs.declared.reader.Collected.TheVariants as collected
use Rattle.step_core.specs.Edges.{PutsRows, SameWaits, Waits}
use Rattle.step_core.specs.Going.{Goes, then}
use Rattle.step_core.specs.Leaves.{CollectorActs, MemberGives, MemberTurn, Pulls, TakesHeld, end_by}
use Rattle.step_core.specs.Nets.{LeafState, leaf}
use Rattle.step_core.specs.Parts.{AcceptsAll, BecomesAt, ReadsAt, ReadsTo}
use Rattle.step_core.specs.Passes.{HoldsNone, IsRead, MemberAccepts, MemberGoesOn, MovesOn, Stood, TreeIdles, TreeReads, has_room, most_waiting}
use Rattle.step_core.specs.declared.actor.StepEnd.{StepEnd}
use Rattle.step_core.specs.declared.actor.StepEnd.TheVariants as step_end
use Rattle.step_core.proofs.Ending.{moved_memory, moved_still, no_memory_still, still_memory, then_memory, then_still}
use Rattle.step_core.proofs.Giving.{same_waits}
use Rattle.step_core.proofs.Going.{goes_held, goes_pull, goes_same, goes_still, goes_then}
use Rattle.step_core.proofs.Running.{GoesOnFrom}
use Rattle.step_core.proofs.Reading.{FirstsBecome, accepts_none, accepts_then, becomes_at, becomes_length, becomes_same, becomes_then, becomes_weaker, firsts_all, firsts_every, firsts_more, firsts_weaker, goes_nowhere, goes_then_accepts, holds_none, member_accepts, member_goes}

-- ---- the ends are apart

abbrev is_moved : StepEnd → Bool
is_moved step_end.Moved = true
is_moved step_end.Still = false
is_moved step_end.NoMemory = false

still_by : (r : Collected) → step_end.Still ≡ end_by r → r ≡ collected.Still
still_by (collected.Row row) e = absurd (moved_still (sym e))
still_by collected.Moved e = absurd (moved_still (sym e))
still_by collected.Still e = refl
still_by collected.NoMemory e = absurd (no_memory_still (sym e))

-- ---- an edge on which rows are put

full_still : (w v : Waits) → v.rows ≡ w.rows → has_room w ≡ false → has_room v ≡ false
full_still w v e full = ap (λ rows. nat_lt (length rows) most_waiting) e ∙ full

fuller_with : (w v : Waits) (more : RowList) → v.rows ≡ w.rows ++ more → has_room w ≡ false → has_room v ≡ false
fuller_with w v more e full = le-ltb (length v.rows) most_waiting (up (length w.rows) (length v.rows) (length more) (ap length e ∙ length-append w.rows more) (ltb-false (length w.rows) most_waiting full))
  where
    up : (n m k : ℕ) → m ≡ n + k → most_waiting ≤ n → most_waiting ≤ m
    up n m k is h = Prim.omega (arith, is, h)

-- rows of a turn that stood still
nothing_put : (w v : Waits) (r : Collected) → r ≡ collected.Still → PutsRows w v (gave r) → SameWaits w v
nothing_put w v r is p = record { rows = on.rows ∙ append-nil w.rows; given = Prim.omega (arith, on.given); put = on.put; taken = on.taken }
  where
    on : PutsRows w v []
    on = subst (λ x. PutsRows w v (gave x)) is p

-- ---- a turn of a member

-- what a turn makes of the collector
record Changes {S : Type 0} (Becomes : Member S → Member S → Type 0) (l k : LeafState S) (index : ℕ) : Type 0 where
  pub select : k.collecting.select ≡ l.collecting.select
  pub members : BecomesAt Becomes index l.collecting.members k.collecting.members

reads_turn : {S M : Type 0} (source : Source S M) (Acts : CollectorActs S) (Becomes : Member S → Member S → Type 0) (l k : LeafState S) (index : ℕ) (w v : Waits) (end : StepEnd) → w.put ≡ false → index < length l.collecting.members
    → (end ≡ step_end.NoMemory → (m : Member S) → Becomes m m) → ((result : Collected) → end ≡ end_by result → Acts l.collecting k.collecting index result → Changes Becomes l k index)
    → Goes source end (leaf l) (leaf k) w v → MemberTurn source Acts l k index w v end → ReadsAt source Becomes l k index w v end
reads_turn {S} {M} source Acts Becomes l k index w v end goes_on inside same changes goes turns = go end refl turns
  where
    gives : MemberGives source Acts l k index w v end → ReadsAt source Becomes l k index w v end
    gives g = record {
      goes = goes;
      select = (changes g.result g.end_is g.turn.acts).select;
      members = (changes g.result g.end_is g.turn.acts).members;
      goes_on = g.put.put ∙ goes_on;
      fuller = fuller_with w v (gave g.result) g.put.rows;
    }

    go : (e : StepEnd) → end ≡ e → MemberTurn source Acts l k index w v e → ReadsAt source Becomes l k index w v end
    go step_end.Moved is t = gives (subst (MemberGives source Acts l k index w v) (sym is) t)
    go step_end.Still is (inl o) = absurd (false≢true (sym goes_on ∙ o.put))
    go step_end.Still is (inr t) = gives (subst (MemberGives source Acts l k index w v) (sym is) t)
    go step_end.NoMemory is (inl o) = record {
      goes = goes;
      select = ap (λ x. x.collecting.select) o.same;
      members = subst (λ x. BecomesAt Becomes index l.collecting.members x.collecting.members) (sym o.same) (becomes_same Becomes (same is) index l.collecting.members inside);
      goes_on = o.out.put ∙ goes_on;
      fuller = full_still w v o.out.rows;
    }
    go step_end.NoMemory is (inr t) = gives (subst (MemberGives source Acts l k index w v) (sym is) t)

changed_at : {S : Type 0} (Becomes : Member S → Member S → Type 0) (l k : LeafState S) (index : ℕ) (old new : Member S) → slice_get l.collecting.members index ≡ Some old
    → k.collecting ≡ record l.collecting { members = set l.collecting.members index new } → Becomes old new → Changes Becomes l k index
changed_at Becomes l k index old new at changed becomes = record {
  select = ap (λ c. c.select) changed;
  members = subst (BecomesAt Becomes index l.collecting.members) (sym (ap (λ c. c.members) changed)) (becomes_at Becomes index l.collecting.members old new at becomes);
}

-- it made a step that moved
abbrev pub Stepped : {S M : Type 0} → Source S M → Select → Member S → Member S → Type 0
Stepped source select m n = (result : Collected) × ((end_by result ≡ step_end.Moved) × StepsMember source select m n result)

-- a pull, of whose member this follows
pulls_to : {S M : Type 0} (source : Source S M) (Becomes : Member S → Member S → Type 0) (l k : LeafState S) (index : ℕ) (w v : Waits) (end : StepEnd) → w.put ≡ false → index < length l.collecting.members → (end ≡ step_end.NoMemory → (m : Member S) → Becomes m m)
    → ((result : Collected) (m n : Member S) → end ≡ end_by result → StepsMember source l.collecting.select m n result → Becomes m n) → Pulls source l k index w v end → ReadsAt source Becomes l k index w v end
pulls_to {S} {M} source Becomes l k index w v end goes_on inside same so p = reads_turn source (Steps source) Becomes l k index w v end goes_on inside same changes (goes_pull source l k index w v end p) p
  where
    changes : (result : Collected) → end ≡ end_by result → Steps source l.collecting k.collecting index result → Changes Becomes l k index
    changes result is s = changed_at Becomes l k index s.old s.new s.at s.changed (so result s.old s.new is s.step)

pub pull_moved : {S M : Type 0} (source : Source S M) (l k : LeafState S) (index : ℕ) (w v : Waits) → w.put ≡ false → index < length l.collecting.members → Pulls source l k index w v step_end.Moved
    → ReadsAt source (Stepped source l.collecting.select) l k index w v step_end.Moved
pull_moved source l k index w v goes_on inside p = pulls_to source (Stepped source l.collecting.select) l k index w v step_end.Moved goes_on inside (λ e. absurd (moved_memory e)) (λ result m n is step. (result, (sym is, step))) p

pub pull_stood : {S M : Type 0} (source : Source S M) (l k : LeafState S) (index : ℕ) (w v : Waits) → w.put ≡ false → index < length l.collecting.members → Pulls source l k index w v step_end.Still
    → ReadsAt source (Stood source l.collecting.select) l k index w v step_end.Still
pull_stood {S} {M} source l k index w v goes_on inside p = pulls_to source (Stood source l.collecting.select) l k index w v step_end.Still goes_on inside (λ e. absurd (still_memory e)) stood p
  where
    stood : (result : Collected) (m n : Member S) → step_end.Still ≡ end_by result → StepsMember source l.collecting.select m n result → Stood source l.collecting.select m n
    stood result m n is step = subst (λ r. StepsMember source l.collecting.select m n r) (still_by result is) step

pub pull_short : {S M : Type 0} (source : Source S M) (l k : LeafState S) (index : ℕ) (w v : Waits) → w.put ≡ false → index < length l.collecting.members → Pulls source l k index w v step_end.NoMemory
    → ReadsAt source (MemberGoesOn source) l k index w v step_end.NoMemory
pull_short source l k index w v goes_on inside p =
    pulls_to source (MemberGoesOn source) l k index w v step_end.NoMemory goes_on inside (λ e. goes_nowhere source) (λ result m n is step. member_goes source l.collecting.select m n result step) p

pub pull_still : {S M : Type 0} (source : Source S M) (l k : LeafState S) (index : ℕ) (w v : Waits) → w.put ≡ false → Pulls source l k index w v step_end.Still → SameWaits w v
pull_still source l k index w v goes_on (inl o) = absurd (false≢true (sym goes_on ∙ o.put))
pull_still source l k index w v goes_on (inr g) = nothing_put w v g.result (still_by g.result g.end_is) g.put

-- rows that are held, of whose member this follows
held_to : {S M : Type 0} (source : Source S M) (Becomes : Member S → Member S → Type 0) (l k : LeafState S) (index : ℕ) (w v : Waits) (end : StepEnd) → w.put ≡ false → index < length l.collecting.members → (end ≡ step_end.NoMemory → (m : Member S) → Becomes m m)
    → ((result : Collected) (m n : Member S) → end ≡ end_by result → AcceptsHeld source l.collecting.select m n result → Becomes m n) → TakesHeld source l k index w v end → ReadsAt source Becomes l k index w v end
held_to {S} {M} source Becomes l k index w v end goes_on inside same so p = reads_turn source (StepsHeld source) Becomes l k index w v end goes_on inside same changes (goes_held source l k index w v end p) p
  where
    changes : (result : Collected) → end ≡ end_by result → StepsHeld source l.collecting k.collecting index result → Changes Becomes l k index
    changes result is s = changed_at Becomes l k index s.old s.new s.at s.changed (so result s.old s.new is s.step)

reads_held : {S M : Type 0} (source : Source S M) (l k : LeafState S) (index : ℕ) (w v : Waits) (end : StepEnd) → w.put ≡ false → index < length l.collecting.members → TakesHeld source l k index w v end
    → ReadsAt source MemberAccepts l k index w v end
reads_held source l k index w v end goes_on inside p = held_to source MemberAccepts l k index w v end goes_on inside (λ is. accepts_none) (λ result m n is step. member_accepts source l.collecting.select m n result step) p

-- nothing was held
abbrev AcceptsNone : {S : Type 0} → Member S → Member S → Type 0
AcceptsNone m n = MemberAccepts m n × HoldsNone n

reads_nothing : {S M : Type 0} (source : Source S M) (l k : LeafState S) (index : ℕ) (w v : Waits) → w.put ≡ false → index < length l.collecting.members → TakesHeld source l k index w v step_end.Still
    → ReadsAt source AcceptsNone l k index w v step_end.Still
reads_nothing {S} {M} source l k index w v goes_on inside p = held_to source AcceptsNone l k index w v step_end.Still goes_on inside (λ e. absurd (still_memory e)) none p
  where
    none : (result : Collected) (m n : Member S) → step_end.Still ≡ end_by result → AcceptsHeld source l.collecting.select m n result → AcceptsNone m n
    none result m n is step = (
      member_accepts source l.collecting.select m n result step,
      holds_none source l.collecting.select m n (subst (λ r. AcceptsHeld source l.collecting.select m n r) (still_by result is) step),
    )

-- less is left, after a turn that moved
pub held_less : {S M : Type 0} (source : Source S M) (l k : LeafState S) (index : ℕ) (w v : Waits) → TakesHeld source l k index w v step_end.Moved → work_left source k.collecting < work_left source l.collecting
held_less {S} {M} source l k index w v p = go p.result p.end_is p.turn.falls
  where
    go : (r : Collected) → step_end.Moved ≡ end_by r → CollectorFalls r (work_left source l.collecting) (work_left source k.collecting) → work_left source k.collecting < work_left source l.collecting
    go (collected.Row row) e falls = falls
    go collected.Moved e falls = falls
    go collected.Still e falls = absurd (moved_still e)
    go collected.NoMemory e falls = absurd (false≢true (ap is_moved (sym e)))

-- ---- turns of one member

pub reads_none : {S M : Type 0} (source : Source S M) (l : LeafState S) (index : ℕ) (w : Waits) → w.put ≡ false → index < length l.collecting.members → ReadsAt source MemberAccepts l l index w w step_end.Still
reads_none source l index w goes_on inside =
    record { goes = goes_same source (leaf l) w; select = refl; members = becomes_same MemberAccepts accepts_none index l.collecting.members inside; goes_on = goes_on; fuller = λ full. full }

-- some turns, and then others
reads_then : {S M : Type 0} (source : Source S M) (R Q T : Member S → Member S → Type 0) → ((m n o : Member S) → R m n → Q n o → T m o) → (l k h : LeafState S) (index : ℕ) (w v x : Waits) (first next : StepEnd)
    → ReadsAt source R l k index w v first → ReadsAt source Q k h index v x next → ReadsAt source T l h index w x (then first next)
reads_then source R Q T both l k h index w v x first next a b = record {
  goes = goes_then source first next (leaf l) (leaf k) (leaf h) w v x a.goes b.goes;
  select = b.select ∙ a.select;
  members = becomes_then R Q T both index l.collecting.members k.collecting.members h.collecting.members a.members b.members;
  goes_on = b.goes_on;
  fuller = λ full. b.fuller (a.fuller full);
}

-- the member is there still
pub reads_inside : {S M : Type 0} (source : Source S M) (R : Member S → Member S → Type 0) (l k : LeafState S) (index : ℕ) (w v : Waits) (end : StepEnd) → ReadsAt source R l k index w v end → index < length l.collecting.members → index < length k.collecting.members
reads_inside source R l k index w v end a inside = subst (λ n. index < n) (sym (becomes_length R index l.collecting.members k.collecting.members a.members)) inside

pub reads_more : {S M : Type 0} (source : Source S M) (l k h : LeafState S) (index : ℕ) (w v x : Waits) (end : StepEnd) → ReadsAt source MemberAccepts l k index w v step_end.Still → index < length l.collecting.members → TakesHeld source k h index v x end
    → ReadsAt source MemberAccepts l h index w x end
reads_more source l k h index w v x end a inside p = reads_then source MemberAccepts MemberAccepts MemberAccepts accepts_then l k h index w v x step_end.Still end a
    (reads_held source k h index v x end a.goes_on (reads_inside source MemberAccepts l k index w v step_end.Still a inside) p)

-- up to where nothing is held
pub reads_all : {S M : Type 0} (source : Source S M) (l k h : LeafState S) (index : ℕ) (w v x : Waits) → ReadsAt source MemberAccepts l k index w v step_end.Still → index < length l.collecting.members → TakesHeld source k h index v x step_end.Still
    → ReadsAt source (AcceptsAll x) l h index w x step_end.Still
reads_all {S} {M} source l k h index w v x a inside p = reads_then source MemberAccepts AcceptsNone (AcceptsAll x) both l k h index w v x step_end.Still step_end.Still a
    (reads_nothing source k h index v x a.goes_on (reads_inside source MemberAccepts l k index w v step_end.Still a inside) p)
  where
    both : (m n o : Member S) → MemberAccepts m n → AcceptsNone n o → AcceptsAll x m o
    both m n o some (none, holds) = (accepts_then m n o some none, inr holds)

-- up to where too many rows wait
pub reads_full : {S M : Type 0} (source : Source S M) (l k : LeafState S) (index : ℕ) (w v : Waits) → ReadsAt source MemberAccepts l k index w v step_end.Still → has_room v ≡ false → ReadsAt source (AcceptsAll v) l k index w v step_end.Still
reads_full source l k index w v a full = record {
  goes = a.goes;
  select = a.select;
  members = becomes_weaker MemberAccepts (AcceptsAll v) (λ m n some. (some, inl full)) index l.collecting.members k.collecting.members a.members;
  goes_on = a.goes_on;
  fuller = a.fuller;
}

-- as far as it goes
pub reads_still : {S M : Type 0} (source : Source S M) (R : Member S → Member S → Type 0) (l k : LeafState S) (index : ℕ) (w v : Waits) → ReadsAt source R l k index w v step_end.Moved → ReadsAt source R l k index w v step_end.Still
reads_still source R l k index w v a = record { goes = goes_still source (leaf l) (leaf k) w v a.goes; select = a.select; members = a.members; goes_on = a.goes_on; fuller = a.fuller }

-- a step that moved, and what it held then
pub reads_moved : {S M : Type 0} (source : Source S M) (l k h : LeafState S) (index : ℕ) (w v x : Waits) → ReadsAt source (Stepped source l.collecting.select) l k index w v step_end.Moved → ReadsAt source (AcceptsAll x) k h index v x step_end.Still
    → ReadsAt source (ReadsTo source l.collecting.select x step_end.Moved) l h index w x step_end.Moved
reads_moved {S} {M} source l k h index w v x a b = reads_then source (Stepped source l.collecting.select) (AcceptsAll x) (ReadsTo source l.collecting.select x step_end.Moved) both l k h index w v x step_end.Moved step_end.Still a b
  where
    both : (m n o : Member S) → Stepped source l.collecting.select m n → AcceptsAll x n o → MovesOn source l.collecting.select m o x
    both m n o (result, (moved, step)) (accepts, stopped) = record { between = n; result = result; moved = moved; step = step; accepts = accepts; stopped = stopped }

pub reads_short : {S M : Type 0} (source : Source S M) (l k h : LeafState S) (index : ℕ) (w v x : Waits) → ReadsAt source (Stepped source l.collecting.select) l k index w v step_end.Moved → ReadsAt source MemberAccepts k h index v x step_end.NoMemory
    → ReadsAt source (ReadsTo source l.collecting.select x step_end.NoMemory) l h index w x step_end.NoMemory
reads_short {S} {M} source l k h index w v x a b = reads_then source (Stepped source l.collecting.select) MemberAccepts (ReadsTo source l.collecting.select x step_end.NoMemory) both l k h index w v x step_end.Moved step_end.NoMemory a b
  where
    both : (m n o : Member S) → Stepped source l.collecting.select m n → MemberAccepts n o → MemberGoesOn source m o
    both m n o (result, (moved, step)) accepts = goes_then_accepts source m n o (member_goes source l.collecting.select m n result step) accepts

-- ---- the members of an atom, one after another

reads_go : {S M : Type 0} (source : Source S M) (select : Select) (w : Waits) (end : StepEnd) (m n : Member S) → ReadsTo source select w end m n → MemberGoesOn source m n
reads_go source select w step_end.Moved m n h = goes_then_accepts source m h.between n (member_goes source select m h.between h.result h.step) h.accepts
reads_go source select w step_end.Still m n h = member_goes source select m n collected.Still h
reads_go source select w step_end.NoMemory m n h = h

is_read : {S M : Type 0} (source : Source S M) (select : Select) (w : Waits) (end : StepEnd) → end ≢ step_end.NoMemory → (m n : Member S) → ReadsTo source select w end m n → IsRead source select w m n
is_read source select w step_end.Moved enough m n h = inr h
is_read source select w step_end.Still enough m n h = inl h
is_read source select w step_end.NoMemory enough m n h = absurd (enough refl)

-- more rows wait now
read_before : {S M : Type 0} (source : Source S M) (select : Select) (w v : Waits) → (has_room w ≡ false → has_room v ≡ false) → (m n : Member S) → IsRead source select w m n → IsRead source select v m n
read_before source select w v fuller m n (inl h) = inl h
read_before {S} {M} source select w v fuller m n (inr h) = inr (record { between = h.between; result = h.result; moved = h.moved; step = h.step; accepts = h.accepts; stopped = still h.stopped })
  where
    still : (has_room w ≡ false) ⊎ HoldsNone n → (has_room v ≡ false) ⊎ HoldsNone n
    still (inl full) = inl (fuller full)
    still (inr none) = inr none

waits_then : (w v x : Waits) → SameWaits w v → SameWaits v x → SameWaits w x
waits_then w v x a b = record { rows = b.rows ∙ a.rows; given = b.given ∙ a.given; put = b.put ∙ a.put; taken = b.taken ∙ a.taken }

-- The first members were read.
pub record HasRead {S M : Type 0} (source : Source S M) (n : ℕ) (l k : LeafState S) (w v : Waits) (end : StepEnd) : Type 0 where
  pub goes : Goes source end (leaf l) (leaf k) w v
  pub select : k.collecting.select ≡ l.collecting.select
  pub members : FirstsBecome (MemberGoesOn source) n l.collecting.members k.collecting.members
  pub reads : end ≢ step_end.NoMemory → FirstsBecome (IsRead source l.collecting.select v) n l.collecting.members k.collecting.members
  pub idle : end ≡ step_end.Still → FirstsBecome (Stood source l.collecting.select) n l.collecting.members k.collecting.members
  pub still : end ≡ step_end.Still → SameWaits w v
  pub count : length k.collecting.members ≡ length l.collecting.members
  pub goes_on : v.put ≡ false

pub read_none : {S M : Type 0} (source : Source S M) (l : LeafState S) (w : Waits) → w.put ≡ false → HasRead source 0 l l w w step_end.Still
read_none source l w goes_on = record { goes = goes_same source (leaf l) w; select = refl; members = refl; reads = λ enough. refl; idle = λ e. refl; still = λ e. same_waits w; count = refl; goes_on = goes_on }

pub read_more : {S M : Type 0} (source : Source S M) (n : ℕ) (l k h : LeafState S) (w v x : Waits) (end next : StepEnd) → HasRead source n l k w v end → ReadsAt source (ReadsTo source k.collecting.select x next) k h n v x next → (next ≡ step_end.Still → SameWaits v x)
    → HasRead source (suc n) l h w x (then end next)
read_more {S} {M} source n l k h w v x end next a b still = record {
  goes = goes_then source end next (leaf l) (leaf k) (leaf h) w v x a.goes b.goes;
  select = b.select ∙ a.select;
  members = firsts_more (MemberGoesOn source) n l.collecting.members k.collecting.members h.collecting.members a.members (becomes_weaker (ReadsTo source select x next) (MemberGoesOn source) (reads_go source select x next) n k.collecting.members h.collecting.members b.members);
  reads = λ enough. firsts_more (IsRead source l.collecting.select x) n l.collecting.members k.collecting.members h.collecting.members
      (firsts_weaker (IsRead source l.collecting.select v) (IsRead source l.collecting.select x) (read_before source l.collecting.select v x b.fuller) n l.collecting.members k.collecting.members (a.reads (then_memory end next enough).0))
      (becomes_weaker (ReadsTo source select x next) (IsRead source l.collecting.select x) (read (then_memory end next enough).1) n k.collecting.members h.collecting.members b.members);
  idle = λ e. firsts_more (Stood source l.collecting.select) n l.collecting.members k.collecting.members h.collecting.members (a.idle (then_still end next e).0) (becomes_weaker (ReadsTo source select x next) (Stood source l.collecting.select) (stood (then_still end next e).1) n k.collecting.members h.collecting.members b.members);
  still = λ e. waits_then w v x (a.still (then_still end next e).0) (still (then_still end next e).1);
  count = becomes_length (ReadsTo source select x next) n k.collecting.members h.collecting.members b.members ∙ a.count;
  goes_on = b.goes_on;
}
  where
    select : Select
    select = k.collecting.select

    read : next ≢ step_end.NoMemory → (m o : Member S) → ReadsTo source select x next m o → IsRead source l.collecting.select x m o
    read enough m o s = subst (λ y. IsRead source y x m o) a.select (is_read source select x next enough m o s)

    stood : next ≡ step_end.Still → (m o : Member S) → ReadsTo source select x next m o → Stood source l.collecting.select m o
    stood e m o s = subst (λ y. Stood source y m o) a.select (subst (λ r. ReadsTo source select x r m o) e s)

-- the end of the members so far, behind one that moved, and behind one that stood still
pub read_moved : {S M : Type 0} (source : Source S M) (n : ℕ) (l k h : LeafState S) (w v x : Waits) (end : StepEnd) → GoesOnFrom end → HasRead source n l k w v end → ReadsAt source (ReadsTo source k.collecting.select x step_end.Moved) k h n v x step_end.Moved
    → HasRead source (suc n) l h w x step_end.Moved
read_moved source n l k h w v x end goes_on a b = subst (HasRead source (suc n) l h w x) (moved end goes_on) (read_more source n l k h w v x end step_end.Moved a b (λ e. absurd (moved_still e)))
  where
    moved : (e : StepEnd) → GoesOnFrom e → then e step_end.Moved ≡ step_end.Moved
    moved step_end.Moved g = refl
    moved step_end.Still g = refl
    moved step_end.NoMemory g = absurd g

pub read_stood : {S M : Type 0} (source : Source S M) (n : ℕ) (l k h : LeafState S) (w v x : Waits) (end : StepEnd) → HasRead source n l k w v end → ReadsAt source (ReadsTo source k.collecting.select x step_end.Still) k h n v x step_end.Still → SameWaits v x
    → HasRead source (suc n) l h w x end
read_stood source n l k h w v x end a b still = subst (HasRead source (suc n) l h w x) (stood end) (read_more source n l k h w v x end step_end.Still a b (λ e. still))
  where
    stood : (e : StepEnd) → then e step_end.Still ≡ e
    stood step_end.Moved = refl
    stood step_end.Still = refl
    stood step_end.NoMemory = refl

pub read_stopped : {S M : Type 0} (source : Source S M) (n : ℕ) (l k h : LeafState S) (w v x : Waits) (end : StepEnd) → HasRead source n l k w v end → ReadsAt source (ReadsTo source k.collecting.select x step_end.NoMemory) k h n v x step_end.NoMemory
    → HasRead source (suc n) l h w x step_end.NoMemory
read_stopped source n l k h w v x end a b = subst (HasRead source (suc n) l h w x) (stopped end) (read_more source n l k h w v x end step_end.NoMemory a b (λ e. absurd (no_memory_still e)))
  where
    stopped : (e : StepEnd) → then e step_end.NoMemory ≡ step_end.NoMemory
    stopped step_end.Moved = refl
    stopped step_end.Still = refl
    stopped step_end.NoMemory = refl

pub members_same : {S M : Type 0} (source : Source S M) (members : List (Member S)) → AllZip (MemberGoesOn source) members members
members_same source members = firsts_all (MemberGoesOn source) (goes_nowhere source) 0 members members refl

-- whichever members were read, the others are as they were
pub read_members : {S M : Type 0} (source : Source S M) (n : ℕ) (l k : LeafState S) (w v : Waits) (end : StepEnd) → HasRead source n l k w v end → AllZip (MemberGoesOn source) l.collecting.members k.collecting.members
read_members source n l k w v end h = firsts_all (MemberGoesOn source) (goes_nowhere source) n l.collecting.members k.collecting.members h.members

-- all were
pub read_all : {S M : Type 0} (source : Source S M) (n : ℕ) (l k : LeafState S) (w v : Waits) (end : StepEnd) → length l.collecting.members ≤ n → HasRead source n l k w v end → end ≢ step_end.NoMemory → TreeReads source (leaf l) (leaf k) w v
read_all source n l k w v end all h enough = inr (firsts_every (IsRead source l.collecting.select v) n l.collecting.members k.collecting.members all (h.reads enough))

pub read_idle : {S M : Type 0} (source : Source S M) (n : ℕ) (l k : LeafState S) (w v : Waits) (end : StepEnd) → length l.collecting.members ≤ n → HasRead source n l k w v end → end ≡ step_end.Still → TreeIdles source (leaf l) (leaf k) w v
read_idle source n l k w v end all h e = (h.still e, inr (firsts_every (Stood source l.collecting.select) n l.collecting.members k.collecting.members all (h.idle e)))
