-- What is read for the atoms of a query: relations whose groups have one mirror each.
use Rattle.std.specs.Prelude.{⊤, ◌≡◌, ℕ, ◌≤◌, List, [], ◌∷◌, length, slice_get, Option, Some, None, option_map, option_and_then}
use Rattle.std.specs.List.{AllByRecursion}
use Rattle.cat_reader.specs.declared.catalogue.Relation.{Relation}
use Rattle.query_core.specs.declared.query.Atom.{Atom}
use Rattle.med_prelude.specs.Texts.{Bytes}
use Rattle.med_top.specs.declared.target.Target.{Target}

-- the one mirror of a group that has no more
abbrev pub one_mirror : List Bytes → Option Bytes
one_mirror [] = None
one_mirror (location ∷ []) = Some location
one_mirror (location ∷ other ∷ more) = None

-- the location of the one mirror of each group
abbrev pub only_mirrors : List (List Bytes) → Option (List Bytes)
only_mirrors [] = Some []
only_mirrors (group ∷ groups) = option_and_then (λ location. option_map (λ more. location ∷ more) (only_mirrors groups)) (one_mirror group)

abbrev pub target_of : Relation → Option Target
target_of relation = option_map (λ locations. record { columns = relation.columns; locations = locations }) (only_mirrors relation.groups)

-- what is read for an atom
abbrev pub target_for : List Relation → Atom → Option Target
target_for relations atom = option_and_then target_of (slice_get relations atom.relation)

-- what is read for each atom, where no group of any has more than one mirror
abbrev pub targets_for : List Relation → List Atom → Option (List Target)
targets_for relations [] = Some []
targets_for relations (atom ∷ atoms) = option_and_then (λ target. option_map (λ more. target ∷ more) (targets_for relations atoms)) (target_for relations atom)

-- at most 16 columns, and at most 16 groups
pub record IsTargetWithin (target : Target) : Type 0 where
  pub columns : length target.columns ≤ 16
  pub groups : length target.locations ≤ 16

-- at most 8 atoms, each within its limits
pub record AreTargetsWithin (targets : List Target) : Type 0 where
  pub few : length targets ≤ 8
  pub each : AllByRecursion IsTargetWithin targets

-- each atom has a term for each column of its target
abbrev pub HaveTerms : List Atom → List Target → Type 0
HaveTerms [] [] = ⊤
HaveTerms [] (target ∷ targets) = ⊥
HaveTerms (atom ∷ atoms) [] = ⊥
HaveTerms (atom ∷ atoms) (target ∷ targets) = (length atom.terms ≡ length target.columns) × HaveTerms atoms targets
