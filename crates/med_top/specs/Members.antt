-- The members of an atom's groups, and how their run ended.
use Rattle.std.specs.Prelude.{◌≡◌, ⊤, ℕ, ◌+◌, ◌≤◌, List, [], ◌∷◌, ◌++◌, Option, Some, None, IfSome, IsSomeAnd, option_and_then, option_map}
use Rattle.std.specs.List.{AllByRecursion}
use Rattle.csv_wrap.specs.declared.members.MemberEnd.{MemberEnd}
use Rattle.csv_wrap.specs.Sound.{IsSoundMember, accepted_rows, asked_locations, given_marks}
use Rattle.med_base.specs.Outside.{StaysTold}
use Rattle.med_base.specs.declared.member.MemberState.TheVariants as state
use Rattle.med_base.specs.declared.names.GroupName.{GroupName}
use Rattle.med_base.specs.declared.names.MemberName.{MemberName}
use Rattle.med_base.specs.declared.outside.source.Source.{Ghosts as Source}
use Rattle.med_prelude.specs.Counts.{Rose}
use Rattle.tuple_core.specs.declared.columns.Column.{Column}
use Rattle.tuple_core.specs.declared.value.Value.{Value}
use Rattle.med_prelude.specs.Texts.{Bytes, ToldBytes}
use Rattle.tuple_core.specs.Values.{RowList}
use Rattle.med_top.specs.Limits.{idle_limit}
use Rattle.med_top.specs.declared.groups.GroupsRead.{GroupsRead}
use Rattle.med_top.specs.declared.groups.RunEnd.{RunEnd}
use Rattle.med_top.specs.declared.groups.RunEnd.TheVariants as run

-- what a count or a list was before a call, and what it is after it
pub record Change (T : Type 0) : Type 0 where
  pub old : T
  pub new : T

-- what changed of an opener: how often it failed, what it was asked for, and the marks of what it gave
pub record Opened (M : Type 0) : Type 0 where
  pub faults : Change ℕ
  pub asked : Change (List Bytes)
  pub given : Change (List M)

-- the one mirror of an atom's group
abbrev pub member_of : ℕ → ℕ → MemberName
member_of atom group = record { atom = atom; group = group; mirror = 1 }

abbrev pub group_of : MemberName → GroupName
group_of name = record { atom = name.atom; group = name.group }

-- The member of a group's one mirror: it is sound, and its source has the text that was told at the location.
pub record IsMemberOf {S M : Type 0} (source : Source S M) (columns : List Column) (told : Bytes → ToldBytes) (atom group : ℕ) (at : Bytes) (member : MemberEnd S) : Type 0 where
  pub name : member.name ≡ member_of atom group
  pub location : member.location ≡ at
  pub sound : IsSoundMember source columns member
  pub whole : IfSome member.source (λ s. StaysTold (told at) (source.whole s))

-- each location has its member, in order, from a group on
abbrev pub AreMembers : {S M : Type 0} → Source S M → List Column → (Bytes → ToldBytes) → ℕ → ℕ → List Bytes → List (MemberEnd S) → Type 0
AreMembers source columns told atom group [] [] = ⊤
AreMembers source columns told atom group [] (member ∷ members) = ⊥
AreMembers source columns told atom group (location ∷ locations) [] = ⊥
AreMembers source columns told atom group (location ∷ locations) (member ∷ members) =
    IsMemberOf source columns told atom group location member × AreMembers source columns told atom (group + 1) locations members

abbrev pub HasEnded : {S : Type 0} → MemberEnd S → Type 0
HasEnded member = member.state ≡ state.Ended

-- a member that was never opened
abbrev pub IsIdle : {S : Type 0} → MemberEnd S → Type 0
IsIdle member = (member.state ≡ state.Idle) × (member.source ≡ None)

abbrev pub idle_member : {S : Type 0} → MemberName → Bytes → MemberEnd S
idle_member name at = record { name = name; location = at; state = state.Idle; fault = None; accepted = 0; source = None }

-- the rows of two members, where both are told
abbrev pub with_more : Option RowList → Option RowList → Option RowList
with_more rows more = option_and_then (λ front. option_map (λ behind. front ++ behind) more) rows

-- the rows that the members accepted, in their order
abbrev pub arrivals : {S M : Type 0} → Source S M → List Column → List (MemberEnd S) → Option RowList
arrivals source columns [] = Some []
arrivals source columns (member ∷ members) = with_more (accepted_rows source columns member) (arrivals source columns members)

-- this holds of one member; those before it were read to their ends, and those after it were never opened
pub record StopsAt {S : Type 0} (members : List (MemberEnd S)) (stops : MemberEnd S → Type 0) : Type 0 where
  pub before : List (MemberEnd S)
  pub member : MemberEnd S
  pub after : List (MemberEnd S)
  pub split : members ≡ before ++ member ∷ after
  pub ended : AllByRecursion HasEnded before
  pub stops_so : stops member
  pub idle : AllByRecursion IsIdle after

-- The member of the group failed. Where that was at its opening, the opener's count of faults rose.
pub record HasFailed {S : Type 0} (old new : ℕ) (group : GroupName) (member : MemberEnd S) : Type 0 where
  pub failed : member.state ≡ state.Failed
  pub named : group ≡ group_of member.name
  pub opening : member.source ≡ None → Rose old new

-- the last 100,000 pulls of the member's source answered that nothing is there yet
pub record HasStalled {S M : Type 0} (source : Source S M) (member : MemberEnd S) : Type 0 where
  pub active : member.state ≡ state.Active
  pub dry : IsSomeAnd member.source (λ s. idle_limit ≤ source.dry s)

-- How the run of the members ended: with the rows of all of them, or at one of them.
abbrev pub EndsRun : {S M : Type 0} → Source S M → List Column → ℕ → ℕ → List (MemberEnd S) → RowList → RunEnd → Type 0
EndsRun source columns old new members rows run.Settled = AllByRecursion HasEnded members × IfSome (arrivals source columns members) (λ accepted. rows ≡ accepted)
EndsRun source columns old new members rows (run.Starved group) = StopsAt members (HasFailed old new group)
EndsRun source columns old new members rows run.Stalled = StopsAt members (HasStalled source)

-- How the run of one member ended. Where it was read to its end, its rows stand behind the others.
abbrev pub EndsMember : {S M : Type 0} → Source S M → List Column → ℕ → ℕ → RowList → RowList → MemberEnd S → RunEnd → Type 0
EndsMember source columns old new rows more member run.Settled = HasEnded member × IfSome (accepted_rows source columns member) (λ accepted. more ≡ rows ++ accepted)
EndsMember source columns old new rows more member (run.Starved group) = HasFailed old new group member
EndsMember source columns old new rows more member run.Stalled = HasStalled source member

-- what a run so far becomes by the next group
pub record Advances {S M : Type 0} (source : Source S M) (columns : List Column) (told : Bytes → ToldBytes) (atom group : ℕ) (location : Bytes) (opener : Opened M) (old new : GroupsRead S) : Type 0 where
  pub member : MemberEnd S
  pub grown : new.members ≡ old.members ++ member ∷ []
  pub is_member : IsMemberOf source columns told atom group location member
  pub asked : opener.asked.new ≡ opener.asked.old ++ asked_locations (member ∷ [])
  pub given : opener.given.new ≡ opener.given.old ++ given_marks source (member ∷ [])
  pub ends : (first : ℕ) → first ≤ opener.faults.old → EndsRun source columns first opener.faults.old old.members old.rows old.end
      → EndsRun source columns first opener.faults.new new.members new.rows new.end
  pub stays : (old.end ≡ run.Settled → ⊥) → IsIdle member × (new.end ≡ old.end)
