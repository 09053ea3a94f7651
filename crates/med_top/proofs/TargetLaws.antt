-- What is read for the atoms of an accepted query keeps the limits of the catalogue.
use Rattle.std.proofs.Common.{◌≤◌, Option, Some, None, IfSome, option_map, option_and_then, ◌≡◌, ℕ, zero, suc, List, [], ◌∷◌, length, slice_get, arith, sym, subst}
use Rattle.std.specs.List.{AllByRecursion}
use Rattle.cat_reader.specs.Accepted.{IsWithin, KeepsLimits}
use Rattle.cat_reader.specs.declared.catalogue.Relation.{Relation}
use Rattle.query_reader.specs.Fitting.{FitsCatalogue, FitsRelation}
use Rattle.query_core.specs.declared.query.Atom.{Atom}
use Rattle.query_core.specs.declared.query.Query.{Query}
use Rattle.med_prelude.specs.Texts.{Bytes}
use Rattle.med_top.specs.Targets.{HaveTerms, IsTargetWithin, one_mirror, only_mirrors, target_for, target_of, targets_for}
use Rattle.med_top.specs.Tasks.{IsTaskWithin}
use Rattle.med_top.specs.declared.target.Target.{Target}

abbrev IsShort : {A : Type 0} → ℕ → Option (List A) → Type 0
IsShort most found = IfSome found (λ xs. length xs ≤ most)

one_more : {A : Type 0} (most : ℕ) (x : A) (found : Option (List A)) → IsShort most found → IsShort (suc most) (option_map (λ more. x ∷ more) found)
one_more most x None h = tt
one_more most x (Some xs) h = omega (arith, h)

more_short : {A : Type 0} (most : ℕ) (first : Option A) (found : Option (List A)) → IsShort most found → IsShort (suc most) (option_and_then (λ x. option_map (λ more. x ∷ more) found) first)
more_short most None found h = tt
more_short most (Some x) found h = one_more most x found h

mirrors_short : (groups : List (List Bytes)) → IsShort (length groups) (only_mirrors groups)
mirrors_short [] = omega arith
mirrors_short (group ∷ groups) = more_short (length groups) (one_mirror group) (only_mirrors groups) (mirrors_short groups)

targets_short : (relations : List Relation) (atoms : List Atom) → IsShort (length atoms) (targets_for relations atoms)
targets_short relations [] = omega arith
targets_short relations (atom ∷ atoms) = more_short (length atoms) (target_for relations atom) (targets_for relations atoms) (targets_short relations atoms)

located : (relation : Relation) (found : Option (List Bytes)) → IsWithin relation → IsShort (length relation.groups) found
    → IfSome (option_map (λ locations. record { columns = relation.columns; locations = locations }) found) IsTargetWithin
located relation None within short = tt
located relation (Some locations) within short = record { columns = within.columns; groups = omega (arith, short, within.groups) }

target_within : (relation : Relation) → IsWithin relation → IfSome (target_of relation) IsTargetWithin
target_within relation within = located relation (only_mirrors relation.groups) within (mirrors_short relation.groups)

at_within : (relations : List Relation) (index : ℕ) → AllByRecursion IsWithin relations → IfSome (option_and_then target_of (slice_get relations index)) IsTargetWithin
at_within [] index all = tt
at_within (relation ∷ relations) zero all = target_within relation all.0
at_within (relation ∷ relations) (suc index) all = at_within relations index all.1

both_within : (first : Option Target) (found : Option (List Target)) → IfSome first IsTargetWithin → IfSome found (AllByRecursion IsTargetWithin)
    → IfSome (option_and_then (λ target. option_map (λ more. target ∷ more) found) first) (AllByRecursion IsTargetWithin)
both_within None found a b = tt
both_within (Some target) None a b = tt
both_within (Some target) (Some targets) a b = (a, b)

each_within : (relations : List Relation) (atoms : List Atom) → AllByRecursion IsWithin relations → IfSome (targets_for relations atoms) (AllByRecursion IsTargetWithin)
each_within relations [] all = tt
each_within relations (atom ∷ atoms) all = both_within (target_for relations atom) (targets_for relations atoms) (at_within relations atom.relation all) (each_within relations atoms all)

-- an atom of a relation has a term for each of the relation's columns, and so for each of its target's
terms_of : (atom : Atom) (relation : Relation) (found : Option (List Bytes)) → length atom.terms ≡ length relation.columns
    → IfSome (option_map (λ locations. record { columns = relation.columns; locations = locations }) found) (λ (target : Target). length atom.terms ≡ length target.columns)
terms_of atom relation None e = tt
terms_of atom relation (Some locations) e = e

terms_for : (relations : List Relation) (atom : Atom) → FitsRelation relations atom → IfSome (target_for relations atom) (λ (target : Target). length atom.terms ≡ length target.columns)
terms_for relations atom fits = rw (fits.is_there) (terms_of atom fits.relation (only_mirrors fits.relation.groups) fits.terms)

both_terms : (atom : Atom) (atoms : List Atom) (first : Option Target) (found : Option (List Target)) → IfSome first (λ (target : Target). length atom.terms ≡ length target.columns)
    → IfSome found (HaveTerms atoms) → IfSome (option_and_then (λ target. option_map (λ more. target ∷ more) found) first) (HaveTerms (atom ∷ atoms))
both_terms atom atoms None found a b = tt
both_terms atom atoms (Some target) None a b = tt
both_terms atom atoms (Some target) (Some targets) a b = (a, b)

have_terms : (relations : List Relation) (atoms : List Atom) → AllByRecursion (FitsRelation relations) atoms → IfSome (targets_for relations atoms) (HaveTerms atoms)
have_terms relations [] fits = tt
have_terms relations (atom ∷ atoms) fits = both_terms atom atoms (target_for relations atom) (targets_for relations atoms) (terms_for relations atom fits.0) (have_terms relations atoms fits.1)

found_within : (query : Query) (targets : List Target) (found : Option (List Target)) → Some targets ≡ found → length query.head ≤ 64 → length query.atoms ≤ 8
    → IsShort (length query.atoms) found → IfSome found (AllByRecursion IsTargetWithin) → IfSome found (HaveTerms query.atoms) → IsTaskWithin (record { query = query; targets = targets })
found_within query targets found is head few short each terms =
    let here = subst (IsShort (length query.atoms)) (sym is) short in
    record {
      head = head;
      targets = record { few = omega (arith, here, few); each = subst (λ f. IfSome f (AllByRecursion IsTargetWithin)) (sym is) each };
      terms = subst (λ f. IfSome f (HaveTerms query.atoms)) (sym is) terms;
    }

-- the task of an accepted query is within its limits
pub task_within : (relations : List Relation) (query : Query) (targets : List Target) → KeepsLimits relations → FitsCatalogue relations query
    → Some targets ≡ targets_for relations query.atoms → IsTaskWithin (record { query = query; targets = targets })
task_within relations query targets keeps fits is =
    found_within query targets (targets_for relations query.atoms) is fits.short_head fits.few_atoms (targets_short relations query.atoms) (each_within relations query.atoms keeps.each) (have_terms relations query.atoms fits.each_atom)
