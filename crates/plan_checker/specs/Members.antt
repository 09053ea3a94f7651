-- What a query reads: the groups of its atoms' relations, and the mirrors of these.
use Rattle.std.specs.Prelude.{ℕ, ◌-◌, List, flat_map, map, length, slice_get, Option, Some, None}
use Rattle.answer_theory.specs.Bags.{numbers_from}
use Rattle.med_base.specs.declared.names.GroupName.{GroupName}
use Rattle.med_base.specs.declared.names.MemberName.{MemberName}
use Rattle.med_prelude.specs.Texts.{Bytes}
use Rattle.cat_reader.specs.declared.catalogue.Relation.{Relation}
use Rattle.query_core.specs.declared.query.Atom.{Atom}
use Rattle.query_core.specs.declared.query.Query.{Query}
use Rattle.plan_checker.specs.Uses.{atom_numbers, group_count}

abbrev pub group_name : ℕ → ℕ → GroupName
group_name a g = record { atom = a; group = g }

abbrev pub member_name : GroupName → ℕ → MemberName
member_name g mirror = record { atom = g.atom; group = g.group; mirror = mirror }

-- the groups of the atom's relation
abbrev pub groups_at : Query → List Relation → ℕ → List GroupName
groups_at query catalogue a = map (group_name a) (numbers_from 1 (group_count query catalogue a))

-- those of the first atom, then those of the second one, and so on
abbrev pub groups_of : Query → List Relation → List GroupName
groups_of query catalogue = flat_map (groups_at query catalogue) (atom_numbers query)

abbrev pub mirrors_in : Option (List Bytes) → ℕ
mirrors_in None = 0
mirrors_in (Some mirrors) = length mirrors

abbrev pub relation_mirrors : ℕ → Option Relation → ℕ
relation_mirrors group None = 0
relation_mirrors group (Some r) = mirrors_in (slice_get r.groups (group - 1))

abbrev pub atom_mirrors : List Relation → ℕ → Option Atom → ℕ
atom_mirrors catalogue group None = 0
atom_mirrors catalogue group (Some atom) = relation_mirrors group (slice_get catalogue atom.relation)

-- how many mirrors the group has
abbrev pub mirror_count : Query → List Relation → GroupName → ℕ
mirror_count query catalogue g = atom_mirrors catalogue g.group (slice_get query.atoms (g.atom - 1))

abbrev pub members_at : Query → List Relation → GroupName → List MemberName
members_at query catalogue g = map (member_name g) (numbers_from 1 (mirror_count query catalogue g))

-- the mirrors of each group, in the order of the groups
abbrev pub members_of : Query → List Relation → List MemberName
members_of query catalogue = flat_map (members_at query catalogue) (groups_of query catalogue)
