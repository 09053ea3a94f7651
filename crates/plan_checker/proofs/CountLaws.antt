-- Numbers in a row, and how many groups and mirrors there are.
use Rattle.std.proofs.Common.{◌≡◌, ℕ, zero, suc, ◌+◌, ◌-◌, ◌≤◌, append_assoc, List, [], ◌∷◌, ◌++◌, map, Option, Some, None, arith, sym, ap, ◌∙◌}
use Rattle.std.specs.Prelude.{slice_get}
use Rattle.std.specs.List.{AllByRecursion}
use Rattle.std.proofs.lemmas.List.{map-append}
use Rattle.answer_theory.specs.Bags.{numbers_from}
use Rattle.med_prelude.specs.Texts.{Bytes}
use Rattle.cat_reader.specs.Accepted.{IsGroupWithin, IsWithin, KeepsLimits}
use Rattle.cat_reader.specs.Limits.{most_groups, most_mirrors}
use Rattle.cat_reader.specs.declared.catalogue.Relation.{Relation}
use Rattle.query_core.specs.declared.query.Atom.{Atom}
use Rattle.query_core.specs.declared.query.Query.{Query}
use Rattle.plan_checker.specs.Members.{atom_mirrors, mirror_count, mirrors_in, relation_mirrors}
use Rattle.plan_checker.specs.Uses.{atom_groups, group_count, groups_in}
use Rattle.med_base.specs.declared.names.GroupName.{GroupName}

pub one_number_more : (first count : ℕ) → numbers_from first (count + 1) ≡ numbers_from first count ++ (first + count) ∷ []
one_number_more first zero = let same : first ≡ first + 0 = omega arith in ap (λ n. n ∷ []) same
one_number_more first (suc count) =
    let next : suc count + 1 ≡ suc (count + 1) = omega arith in
    let last : suc first + count ≡ first + suc count = omega arith in
    ap (numbers_from first) next ∙ ap (λ ns. first ∷ ns) (one_number_more (suc first) count ∙ ap (λ n. numbers_from (suc first) count ++ n ∷ []) last)

pub made_of_more : {A : Type 0} (make : ℕ → A) (items more : List A) (count : ℕ) → more ≡ items ++ map make (numbers_from 1 count) → more ++ make (count + 1) ∷ [] ≡ items ++ map make (numbers_from 1 (count + 1))
made_of_more make items more count e =
    let last : 1 + count ≡ count + 1 = omega arith in
    ap (λ xs. xs ++ make (count + 1) ∷ []) e ∙ append_assoc items (map make (numbers_from 1 count)) (make (count + 1) ∷ [])
    ∙ ap (λ xs. items ++ xs) (sym (ap (map make) (one_number_more 1 count) ∙ map-append make (numbers_from 1 count) ((1 + count) ∷ []) ∙ ap (λ n. map make (numbers_from 1 count) ++ make n ∷ []) last))

few_in : (rs : List Relation) (n : ℕ) → AllByRecursion IsWithin rs → groups_in (slice_get rs n) ≤ most_groups
few_in [] n all = omega arith
few_in (r ∷ rs) zero all = all.0.groups
few_in (r ∷ rs) (suc n) all = few_in rs n all.1

pub few_groups : (query : Query) (catalogue : List Relation) (a : ℕ) → KeepsLimits catalogue → group_count query catalogue a ≤ 16
few_groups query catalogue a limits = by (slice_get query.atoms (a - 1))
  where
    by : (o : Option Atom) → atom_groups catalogue o ≤ 16
    by None = omega arith
    by (Some atom) = few_in catalogue atom.relation limits.each

few_mirrors_in : (gs : List (List Bytes)) (n : ℕ) → AllByRecursion IsGroupWithin gs → mirrors_in (slice_get gs n) ≤ most_mirrors
few_mirrors_in [] n all = omega arith
few_mirrors_in (g ∷ gs) zero all = all.0.few
few_mirrors_in (g ∷ gs) (suc n) all = few_mirrors_in gs n all.1

relation_few : (rs : List Relation) (n group : ℕ) → AllByRecursion IsWithin rs → relation_mirrors group (slice_get rs n) ≤ most_mirrors
relation_few [] n group all = omega arith
relation_few (r ∷ rs) zero group all = few_mirrors_in r.groups (group - 1) all.0.mirrors
relation_few (r ∷ rs) (suc n) group all = relation_few rs n group all.1

pub few_mirrors : (query : Query) (catalogue : List Relation) (g : GroupName) → KeepsLimits catalogue → mirror_count query catalogue g ≤ 8
few_mirrors query catalogue g limits = by (slice_get query.atoms (g.atom - 1))
  where
    by : (o : Option Atom) → atom_mirrors catalogue g.group o ≤ 8
    by None = omega arith
    by (Some atom) = relation_few catalogue atom.relation g.group limits.each
