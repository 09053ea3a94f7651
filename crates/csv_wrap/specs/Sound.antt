-- When a member's end is sound, and which rows it accepted.
use Rattle.std.specs.Prelude.{◌≡◌, ⊤, ℕ, ◌≤◌, ◌⊎◌, Bool, true, false, List, [], ◌∷◌, ◌++◌, length, take, Option, Some, None, IfSome, option_map, option_to_list, if◌then◌else◌, nat_eq}
use Rattle.std.specs.Cmp.Lexicographic.{pointwise}
use Rattle.med_base.specs.declared.member.MemberFault.{MemberFault}
use Rattle.med_base.specs.declared.member.MemberFault.TheVariants as fault
use Rattle.med_base.specs.declared.member.MemberState.{MemberState}
use Rattle.med_base.specs.declared.member.MemberState.TheVariants as state
use Rattle.med_base.specs.declared.outside.source.Source.{Ghosts as Source}
use Rattle.med_prelude.specs.Texts.{Bytes, IsWhole, ToldBytes}
use Rattle.tuple_core.specs.declared.columns.Column.{Column}
use Rattle.tuple_core.specs.Values.{RowList}
use Rattle.csv_wrap.specs.declared.members.MemberEnd.{MemberEnd}
use Rattle.csv_wrap.specs.Rows.{source_rows, source_verdict}

-- whether the bytes are all of the text
abbrev pub is_all : ToldBytes → Bytes → Bool
is_all None bytes = false
is_all (Some text) bytes = pointwise nat_eq bytes text

-- the rows and the verdict of a source's taken bytes, which have ended where they are all of its text
abbrev pub taken_rows : List Column → ToldBytes → Bytes → RowList
taken_rows columns whole bytes = source_rows columns bytes (is_all whole bytes)

abbrev pub taken_verdict : List Column → ToldBytes → Bytes → Option MemberFault
taken_verdict columns whole bytes = source_verdict columns bytes (is_all whole bytes)

-- a fault that stands in the bytes of a source: neither its opening nor a read of it
abbrev pub IsOfBytes : MemberFault → Type 0
IsOfBytes fault.Opening = ⊥
IsOfBytes fault.Read = ⊥
IsOfBytes (fault.Header found) = ⊤
IsOfBytes (fault.BadRecord k) = ⊤
IsOfBytes (fault.BadField k column) = ⊤
IsOfBytes (fault.TooLong k) = ⊤

-- The source failed: the member accepted all rows of the bytes that came, and the source's count of faults isn't 0.
abbrev pub FailedByRead : List Column → ToldBytes → ℕ → ℕ → MemberFault → Type 0
FailedByRead columns taken faults accepted why =
    (why ≡ fault.Read) × (1 ≤ faults) × IfSome taken (λ bytes. accepted ≡ length (source_rows columns bytes false))

-- The bytes are bad: the fault stands in them, and the member accepted all rows before it, which is the verdict.
abbrev pub FailedByBytes : List Column → ToldBytes → ToldBytes → ℕ → MemberFault → Type 0
FailedByBytes columns taken whole accepted why = IsOfBytes why × IfSome taken (λ bytes.
    (accepted ≡ length (taken_rows columns whole bytes)) × (taken_verdict columns whole bytes ≡ Some why))

-- a member that ended has accepted all rows of its whole text, which is clean
abbrev pub IsSoundEnd : List Column → ToldBytes → ToldBytes → ℕ → Type 0
IsSoundEnd columns taken whole accepted = IsWhole taken whole × IfSome taken (λ bytes.
    (accepted ≡ length (source_rows columns bytes true)) × (source_verdict columns bytes true ≡ None))

-- any other member has accepted no more rows than its source gave
abbrev pub IsSoundSoFar : List Column → ToldBytes → ToldBytes → ℕ → Type 0
IsSoundSoFar columns taken whole accepted = IfSome taken (λ bytes. accepted ≤ length (taken_rows columns whole bytes))

abbrev pub IsSoundState : List Column → ToldBytes → ToldBytes → ℕ → ℕ → MemberState → Option MemberFault → Type 0
IsSoundState columns taken whole faults accepted state.Failed (Some why) =
    FailedByRead columns taken faults accepted why ⊎ FailedByBytes columns taken whole accepted why
IsSoundState columns taken whole faults accepted state.Ended None = IsSoundEnd columns taken whole accepted
IsSoundState columns taken whole faults accepted state.Idle None = IsSoundSoFar columns taken whole accepted
IsSoundState columns taken whole faults accepted state.Active None = IsSoundSoFar columns taken whole accepted
IsSoundState columns taken whole faults accepted state.Paused None = IsSoundSoFar columns taken whole accepted
IsSoundState columns taken whole faults accepted state.Failed None = ⊥
IsSoundState columns taken whole faults accepted state.Ended (Some why) = ⊥
IsSoundState columns taken whole faults accepted state.Idle (Some why) = ⊥
IsSoundState columns taken whole faults accepted state.Active (Some why) = ⊥
IsSoundState columns taken whole faults accepted state.Paused (Some why) = ⊥

-- a member without a source was never opened, or its opening failed
abbrev pub IsSoundUnopened : MemberState → Option MemberFault → Type 0
IsSoundUnopened state.Idle None = Unit {0}
IsSoundUnopened state.Failed (Some fault.Opening) = Unit {0}
IsSoundUnopened _ _ = ⊥

abbrev pub IsSoundWith : {S M : Type 0} → Source S M → List Column → MemberEnd S → Option S → Type 0
IsSoundWith source columns member None = (member.accepted ≡ 0) × IsSoundUnopened member.state member.fault
IsSoundWith source columns member (Some s) = (source.location s ≡ member.location)
    × IsSoundState columns (source.taken s) (source.whole s) (source.faults s) member.accepted member.state member.fault

-- what a member's end says of its source is so
abbrev pub IsSoundMember : {S M : Type 0} → Source S M → List Column → MemberEnd S → Type 0
IsSoundMember source columns member = IsSoundWith source columns member member.source

-- the rows that a member accepted, where the bytes of its source are told
abbrev pub accepted_with : {S M : Type 0} → Source S M → List Column → ℕ → Option S → Option (RowList)
accepted_with source columns accepted None = Some []
accepted_with source columns accepted (Some s) = option_map (λ bytes. take accepted (taken_rows columns (source.whole s) bytes)) (source.taken s)

abbrev pub accepted_rows : {S M : Type 0} → Source S M → List Column → MemberEnd S → Option (RowList)
accepted_rows source columns member = accepted_with source columns member.accepted member.source

-- whether the opener was asked for the member's source: it has one, or its opening failed
abbrev pub was_asked : {S : Type 0} → Option S → MemberState → Bool
was_asked (Some s) state = true
was_asked None state.Failed = true
was_asked None state.Idle = false
was_asked None state.Active = false
was_asked None state.Paused = false
was_asked None state.Ended = false

-- the locations that an opener was asked for, and the marks of the sources that it gave, by the members
abbrev pub asked_locations : {S : Type 0} → List (MemberEnd S) → List Bytes
asked_locations [] = []
asked_locations (member ∷ members) =
    (if was_asked member.source member.state then member.location ∷ [] else []) ++ asked_locations members

abbrev pub given_marks : {S M : Type 0} → Source S M → List (MemberEnd S) → List M
given_marks source [] = []
given_marks source (member ∷ members) = option_to_list (option_map source.mark member.source) ++ given_marks source members
