-- The members of an atom: one mirror of one group each.
use Rattle.std.specs.Prelude.{◌≡◌, ℕ, ◌+◌, ◌≤◌, ◌==◌, Bool, true, false, not, ◌&&◌, ◌||◌, List, [], ◌∷◌, ◌++◌, length, Option, Some, None, IfSome, option_map}
use Rattle.std.specs.List.{AllByRecursion, AllZip, find, list_all, list_any}
use Rattle.std.specs.Option.{MatchOption}
use Rattle.med_base.specs.declared.member.MemberFault.{MemberFault}
use Rattle.med_base.specs.declared.member.MemberFault.TheVariants as fault
use Rattle.med_base.specs.declared.member.MemberState.{MemberState}
use Rattle.med_base.specs.declared.member.MemberState.TheVariants as state
use Rattle.med_base.specs.declared.names.GroupName.{GroupName}
use Rattle.med_base.specs.declared.names.MemberName.{MemberName}
use Rattle.med_base.specs.declared.outside.source.Source.{Ghosts as Source}
use Rattle.med_prelude.specs.Texts.{Bytes}
use Rattle.tuple_core.specs.declared.columns.Column.{Column}
use Rattle.tuple_core.specs.Values.{RowList}
use Rattle.csv_wrap.specs.Ahead.{FillColumns}
use Rattle.csv_wrap.specs.Sound.{IsSoundMember, accepted_rows}
use Rattle.csv_wrap.specs.declared.members.MemberEnd.{MemberEnd}
use Rattle.collect_core.specs.declared.member.MemberNow.{MemberNow}
use Rattle.collect_core.specs.Reading.{IsReader, Reader, ReaderAccepted, most_rows, reader_left}

-- One mirror of one group. It has no reader where it was never opened, or its opening failed.
pub record Member (S : Type 0) : Type 0 where
  pub name : MemberName
  pub location : Bytes
  pub opening_failed : Bool
  pub reader : Option (Reader S)

-- what a member without a source stands as
abbrev pub unopened_state : Bool → MemberState
unopened_state true = state.Failed
unopened_state false = state.Idle

abbrev pub unopened_fault : Bool → Option MemberFault
unopened_fault true = Some fault.Opening
unopened_fault false = None

abbrev pub unopened_now : Bool → MemberNow
unopened_now opening_failed = record { state = unopened_state opening_failed; fault = unopened_fault opening_failed; accepted = 0; waited = 0 }

-- a member as it stands at present; one without a source was never opened, or its opening failed
abbrev pub member_now_with : {S : Type 0} → Bool → Option (Reader S) → MemberNow
member_now_with opening_failed None = unopened_now opening_failed
member_now_with opening_failed (Some r) = record { state = r.state; fault = r.fault; accepted = r.accepted; waited = r.waited }

abbrev pub member_now : {S : Type 0} → Member S → MemberNow
member_now m = member_now_with m.opening_failed m.reader

-- its end, if the run ends now
abbrev pub end_of : {S : Type 0} → Member S → MemberEnd S
end_of m = record {
  name = m.name;
  location = m.location;
  state = (member_now m).state;
  fault = (member_now m).fault;
  accepted = (member_now m).accepted;
  source = option_map (λ r. r.wrapper.source) m.reader;
}

-- what holds of each member
abbrev pub IsMember : {S M : Type 0} → Source S M → List Column → Member S → Type 0
IsMember source columns m =
    IfSome m.reader (λ r. IsReader source r × (r.wrapper.ahead.columns ≡ columns) × (source.location r.wrapper.source ≡ m.location))

-- what the members' ends say of their sources is so
abbrev pub AreSound : {S M : Type 0} → Source S M → List Column → List (Member S) → Type 0
AreSound source columns members = AllByRecursion (λ m. IsSoundMember source columns (end_of m)) members

-- these rows were accepted of each member, in their order
abbrev pub MemberAccepted : {S M : Type 0} → Source S M → Member S → RowList → Type 0
MemberAccepted source m rows = MatchOption m.reader (rows ≡ []) (λ r. ReaderAccepted source r rows)

abbrev pub HasAccepted : {S M : Type 0} → Source S M → List (Member S) → List RowList → Type 0
HasAccepted source members accepted = AllZip (MemberAccepted source) members accepted

-- what was accepted of a member are its first rows, as many as it accepted, where its source tells its bytes
abbrev pub IsTold : {S M : Type 0} → Source S M → List Column → Member S → RowList → Type 0
IsTold source columns m rows = IfSome (accepted_rows source columns (end_of m)) (λ told. told ≡ rows)

abbrev pub AreTold : {S M : Type 0} → Source S M → List Column → List (Member S) → List RowList → Type 0
AreTold source columns members accepted = AllZip (IsTold source columns) members accepted

-- each row has a value for each column, and no member has too many
abbrev pub AreWithin : List Column → List RowList → Type 0
AreWithin columns accepted = AllByRecursion (λ rows. FillColumns columns rows × (length rows ≤ most_rows)) accepted

-- how much is left to do for a member
abbrev pub left_of : {S M : Type 0} → Source S M → Option (Reader S) → ℕ
left_of source None = 0
left_of source (Some r) = reader_left source r

abbrev pub member_left : {S M : Type 0} → Source S M → Member S → ℕ
member_left source m = left_of source m.reader

-- ---- names, in the order of groups and mirrors, which count from 1

abbrev pub fresh_member : {S : Type 0} → ℕ → ℕ → ℕ → Bytes → Member S
fresh_member atom group mirror location =
    record { name = record { atom = atom; group = group; mirror = mirror }; location = location; opening_failed = false; reader = None }

abbrev pub fresh_group : {S : Type 0} → ℕ → ℕ → ℕ → List Bytes → List (Member S)
fresh_group atom group mirror [] = []
fresh_group atom group mirror (location ∷ locations) = fresh_member atom group mirror location ∷ fresh_group atom group (mirror + 1) locations

abbrev pub fresh_members : {S : Type 0} → ℕ → ℕ → List (List Bytes) → List (Member S)
fresh_members atom group [] = []
fresh_members atom group (locations ∷ groups) = fresh_group atom group 1 locations ++ fresh_members atom (group + 1) groups

abbrev pub is_named : {S : Type 0} → MemberName → Member S → Bool
is_named name m = (m.name.group == name.group) && ((m.name.mirror == name.mirror) && (m.name.atom == name.atom))

-- ---- groups

abbrev pub is_in : {S : Type 0} → ℕ → Member S → Bool
is_in group m = m.name.group == group

abbrev pub is_ended : MemberState → Bool
is_ended state.Ended = true
is_ended state.Idle = false
is_ended state.Active = false
is_ended state.Paused = false
is_ended state.Failed = false

abbrev pub is_failed : MemberState → Bool
is_failed state.Failed = true
is_failed state.Idle = false
is_failed state.Active = false
is_failed state.Paused = false
is_failed state.Ended = false

-- one of the group's members was read cleanly to its end
abbrev pub is_settled : {S : Type 0} → List (Member S) → ℕ → Bool
is_settled members group = list_any (λ m. is_in group m && is_ended (member_now m).state) members

-- all of the group's members failed
abbrev pub is_starved : {S : Type 0} → List (Member S) → ℕ → Bool
is_starved members group = list_all (λ m. not (is_in group m) || is_failed (member_now m).state) members

abbrev pub group_of : {S : Type 0} → Member S → GroupName
group_of m = record { atom = m.name.atom; group = m.name.group }

-- the first group whose members all failed
abbrev pub starved_group : {S : Type 0} → List (Member S) → Option GroupName
starved_group members = option_map group_of (find (λ m. is_starved members m.name.group) members)

-- each group is settled
abbrev pub are_settled : {S : Type 0} → List (Member S) → Bool
are_settled members = list_all (λ m. is_settled members m.name.group) members
