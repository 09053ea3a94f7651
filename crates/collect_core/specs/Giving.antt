-- How a member gets its source.
use Rattle.std.specs.Prelude.{◌≡◌, ℕ, true, List, set, slice_get, Some, IsSomeAnd}
use Rattle.med_base.specs.declared.member.MemberState.TheVariants as state
use Rattle.med_base.specs.declared.outside.source.Source.{Ghosts as Source}
use Rattle.med_prelude.specs.Texts.{Bytes}
use Rattle.tuple_core.specs.declared.columns.Column.{Column}
use Rattle.collect_core.specs.Collecting.{Collecting}
use Rattle.collect_core.specs.Members.{Member, member_now}
use Rattle.collect_core.specs.Turning.{IsFresh}
use Rattle.collect_core.specs.Reading.{Reader}

-- the member has no source, and none was looked for
abbrev pub IsIdleAt : {S : Type 0} → List (Member S) → ℕ → Type 0
IsIdleAt members index = IsSomeAnd (slice_get members index) (λ m. (member_now m).state ≡ state.Idle)

-- the member there is that of the location
abbrev pub IsAt : {S : Type 0} → List (Member S) → ℕ → Bytes → Type 0
IsAt members index location = IsSomeAnd (slice_get members index) (λ m. m.location ≡ location)

-- the member has the source, of which nothing was read yet
abbrev pub GivesMember : {S M : Type 0} → Source S M → List Column → S → Member S → Member S → Type 0
GivesMember {S} source columns s old new = (r : Reader S) × IsFresh source columns s r × (new ≡ record old { reader = Some r })

pub record Gives {S M : Type 0} (source : Source S M) (s t : Collecting S) (index : ℕ) (given : S) : Type 0 where
  pub old : Member S
  pub new : Member S
  pub at : slice_get s.members index ≡ Some old
  pub changed : t ≡ record s { members = set s.members index new }
  pub gives : GivesMember source s.columns given old new

-- the member's opening failed
pub record FailsOpening {S : Type 0} (s t : Collecting S) (index : ℕ) : Type 0 where
  pub old : Member S
  pub at : slice_get s.members index ≡ Some old
  pub changed : t ≡ record s { members = set s.members index (record old { opening_failed = true }) }
