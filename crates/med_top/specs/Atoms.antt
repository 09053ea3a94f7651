-- The members of all atoms of a query, the rows that came for each atom, and how the whole run ended.
use Rattle.std.specs.Prelude.{◌≡◌, ℕ, ◌+◌, ◌==◌, Bool, List, [], ◌∷◌, ◌++◌, filter, Option, Some, IfSome, option_and_then, option_map}
use Rattle.std.specs.List.{AllByRecursion}
use Rattle.csv_wrap.specs.Sound.{asked_locations, given_marks}
use Rattle.csv_wrap.specs.declared.members.MemberEnd.{MemberEnd}
use Rattle.med_base.specs.declared.outside.source.Source.{Ghosts as Source}
use Rattle.tuple_core.specs.declared.value.Value.{Value}
use Rattle.med_prelude.specs.Texts.{Bytes, ToldBytes}
use Rattle.tuple_core.specs.Values.{RowList}
use Rattle.med_top.specs.Members.{AreMembers, EndsRun, HasEnded, HasFailed, HasStalled, IsIdle, Opened, StopsAt, arrivals}
use Rattle.med_top.specs.declared.atoms.AtomsRead.{AtomsRead}
use Rattle.med_top.specs.declared.groups.RunEnd.{RunEnd}
use Rattle.med_top.specs.declared.groups.RunEnd.TheVariants as run
use Rattle.med_top.specs.declared.target.Target.{Target}

-- each atom, from one on, has its members, one after the other
abbrev pub AreAllMembers : {S M : Type 0} → Source S M → (Bytes → ToldBytes) → ℕ → List Target → List (MemberEnd S) → Type 0
AreAllMembers source told atom [] members = members ≡ []
AreAllMembers {S} source told atom (target ∷ targets) members =
    (own : List (MemberEnd S)) × (others : List (MemberEnd S)) × (members ≡ own ++ others)
    × AreMembers source target.columns told atom 1 target.locations own × AreAllMembers source told (atom + 1) targets others

-- whether the member is one of the atom
abbrev pub is_of : {S : Type 0} → ℕ → MemberEnd S → Bool
is_of atom member = member.name.atom == atom

-- the rows that the members of an atom accepted, in their order
abbrev pub arrivals_for : {S M : Type 0} → Source S M → List (MemberEnd S) → ℕ → Target → Option RowList
arrivals_for source members atom target = arrivals source target.columns (filter (is_of atom) members)

-- the rows that came for each atom, from one on
abbrev pub all_arrivals : {S M : Type 0} → Source S M → List (MemberEnd S) → ℕ → List Target → Option (List RowList)
all_arrivals source members atom [] = Some []
all_arrivals source members atom (target ∷ targets) =
    option_and_then (λ rows. option_map (λ more. rows ∷ more) (all_arrivals source members (atom + 1) targets)) (arrivals_for source members atom target)

-- How the run of all atoms ended: with the rows of each of them, or at one of the members.
abbrev pub EndsAtoms : {S M : Type 0} → Source S M → List Target → ℕ → ℕ → List (MemberEnd S) → List RowList → RunEnd → Type 0
EndsAtoms source targets old new members rows run.Settled = AllByRecursion HasEnded members × IfSome (all_arrivals source members 1 targets) (λ accepted. rows ≡ accepted)
EndsAtoms source targets old new members rows (run.Starved group) = StopsAt members (HasFailed old new group)
EndsAtoms source targets old new members rows run.Stalled = StopsAt members (HasStalled source)

-- what a run so far becomes by the next atom
pub record AdvancesAtom {S M : Type 0} (source : Source S M) (told : Bytes → ToldBytes) (atom : ℕ) (target : Target) (opener : Opened M) (old new : AtomsRead S) : Type 0 where
  pub own : List (MemberEnd S)
  pub rows : RowList
  pub grown : new.members ≡ old.members ++ own
  pub arrived : new.arrivals.items ≡ old.arrivals.items ++ rows ∷ []
  pub are_members : AreMembers source target.columns told atom 1 target.locations own
  pub asked : opener.asked.new ≡ opener.asked.old ++ asked_locations own
  pub given : opener.given.new ≡ opener.given.old ++ given_marks source own
  pub ends : old.end ≡ run.Settled → EndsRun source target.columns opener.faults.old opener.faults.new own rows new.end
  pub stays : (old.end ≡ run.Settled → ⊥) → AllByRecursion IsIdle own × (new.end ≡ old.end)
