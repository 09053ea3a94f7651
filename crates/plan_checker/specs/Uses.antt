-- The checks of a plan against a query and its catalogue: what is named is there, and each atom and each fragment but the
-- last is used once, by a fragment behind it.
use Rattle.std.specs.Prelude.{ℕ, ◌+◌, ◌-◌, ◌==◌, ◌&&◌, not, nat_le, nat_lt, Bool, List, [], ◌∷◌, ◌++◌, map, flat_map, length, take, slice_get, Option, Some, None}
use Rattle.std.specs.List.{filter_map, list_all}
use Rattle.answer_theory.specs.Bags.{count_of, numbers_from}
use Rattle.answer_theory.specs.Solutions.{names}
use Rattle.med_base.specs.declared.names.GroupName.{GroupName}
use Rattle.med_base.specs.declared.status.Part.TheVariants as part
use Rattle.text_reading.specs.Checks.{Check}
use Rattle.text_reading.specs.Faults.{broken_if, indices_where}
use Rattle.cat_reader.specs.declared.catalogue.Relation.{Relation}
use Rattle.query_core.specs.declared.query.Atom.{Atom}
use Rattle.query_core.specs.declared.query.Query.{Query}
use Rattle.join_trees.specs.Shapes.{nodes_of, join_in}
use Rattle.join_trees.specs.declared.tree.Leaf.TheVariants as leaf
use Rattle.join_trees.specs.declared.tree.Node.{Node}
use Rattle.join_trees.specs.declared.tree.Node.TheVariants as node
use Rattle.plan_reader.specs.Locations.{in_part}
use Rattle.plan_reader.specs.declared.location.Location.{Location}
use Rattle.plan_reader.specs.declared.plan.Fragment.{Fragment}
use Rattle.plan_reader.specs.declared.plan.GroupSetting.{GroupSetting}
use Rattle.plan_reader.specs.declared.plan.JoinSetting.{JoinSetting}
use Rattle.plan_reader.specs.declared.plan.Plan.{Plan}

-- the nodes of all trees
abbrev pub nodes_in : List Fragment → List Node
nodes_in fs = flat_map (λ (f : Fragment). nodes_of f.tree) fs

-- the atom, and the fragment, that a node is
abbrev pub atom_of : Node → Option ℕ
atom_of (node.Leaf (leaf.Atom a)) = Some a
atom_of (node.Leaf (leaf.Fragment f)) = None
atom_of (node.Join j) = None

abbrev pub fragment_of : Node → Option ℕ
fragment_of (node.Leaf (leaf.Atom a)) = None
fragment_of (node.Leaf (leaf.Fragment f)) = Some f
fragment_of (node.Join j) = None

-- the atoms and fragments that are leaves, each as often as it is one, and the joins
abbrev pub atoms_used : List Node → List ℕ
atoms_used ns = filter_map atom_of ns

abbrev pub fragments_used : List Node → List ℕ
fragments_used ns = filter_map fragment_of ns

abbrev pub joins_used : List Node → List ℕ
joins_used ns = filter_map join_in ns

abbrev pub numbers_of : List Fragment → List ℕ
numbers_of fs = map (λ (f : Fragment). f.number) fs

-- one of so many atoms
abbrev pub is_atom : ℕ → ℕ → Bool
is_atom atoms a = nat_le 1 a && nat_le a atoms

-- what is named is there: atoms, fragments, joins and groups

-- the fragments that it takes rows from, or names as those before it
abbrev pub fragments_named : Fragment → List ℕ
fragments_named f = fragments_used (nodes_of f.tree) ++ f.after

abbrev pub names_known : ℕ → List ℕ → Fragment → Bool
names_known atoms numbers f = list_all (is_atom atoms) (atoms_used (nodes_of f.tree)) && list_all (names numbers) (fragments_named f)

abbrev pub names_unknown : ℕ → List ℕ → Fragment → Bool
names_unknown atoms numbers f = not (names_known atoms numbers f)

abbrev pub is_unknown_join : List ℕ → JoinSetting → Bool
is_unknown_join joins j = not (names joins j.join)

abbrev pub groups_in : Option Relation → ℕ
groups_in None = 0
groups_in (Some r) = length r.groups

abbrev pub atom_groups : List Relation → Option Atom → ℕ
atom_groups catalogue None = 0
atom_groups catalogue (Some atom) = groups_in (slice_get catalogue atom.relation)

-- how many groups the atom's relation has
abbrev pub group_count : Query → List Relation → ℕ → ℕ
group_count query catalogue a = atom_groups catalogue (slice_get query.atoms (a - 1))

abbrev pub has_group : Query → List Relation → GroupName → Bool
has_group query catalogue g = nat_le 1 g.atom && (nat_le 1 g.group && nat_le g.group (group_count query catalogue g.atom))

abbrev pub is_unknown_group : Query → List Relation → GroupSetting → Bool
is_unknown_group query catalogue g = not (has_group query catalogue g.group)

unfoldable pub where_unknown : Query → List Relation → Plan → List Location
where_unknown query catalogue p =
    in_part part.Fragment (indices_where (names_unknown (length query.atoms) (numbers_of p.fragments)) 0 p.fragments)
    ++ in_part part.Join (indices_where (is_unknown_join (joins_used (nodes_in p.fragments))) 0 p.joins)
    ++ in_part part.Group (indices_where (is_unknown_group query catalogue) 0 p.groups)

-- each atom is a leaf, and none is a leaf twice

abbrev pub is_missing : List ℕ → ℕ → Bool
is_missing used a = count_of a used == 0

abbrev pub is_used_twice : List ℕ → ℕ → Bool
is_used_twice used a = nat_lt 1 (count_of a used)

abbrev pub atom_numbers : Query → List ℕ
atom_numbers query = numbers_from 1 (length query.atoms)

unfoldable pub where_missing : Query → Plan → List Location
where_missing query p = in_part part.Atom (indices_where (is_missing (atoms_used (nodes_in p.fragments))) 0 (atom_numbers query))

unfoldable pub where_used_twice : Query → Plan → List Location
where_used_twice query p = in_part part.Atom (indices_where (is_used_twice (atoms_used (nodes_in p.fragments))) 0 (atom_numbers query))

-- each fragment but the last is a leaf once, the last never

-- how often a fragment is to be a leaf, given those behind it
abbrev pub wanted : List ℕ → ℕ
wanted [] = 0
wanted (n ∷ ns) = 1

abbrev pub misused_from : List ℕ → ℕ → List ℕ → List ℕ
misused_from used index [] = []
misused_from used index (n ∷ ns) = broken_if (not (count_of n used == wanted ns)) index ++ misused_from used (index + 1) ns

unfoldable pub where_misused : Plan → List Location
where_misused p = in_part part.Fragment (misused_from (fragments_used (nodes_in p.fragments)) 0 (numbers_of p.fragments))

-- the fragments that one names stand before it

abbrev pub is_early : List ℕ → Fragment → Bool
is_early before f = not (list_all (names before) (fragments_named f))

abbrev pub early_from : List ℕ → ℕ → List Fragment → List ℕ
early_from numbers index [] = []
early_from numbers index (f ∷ fs) = broken_if (is_early (take index numbers) f) index ++ early_from numbers (index + 1) fs

unfoldable pub where_early : Plan → List Location
where_early p = in_part part.Fragment (early_from (numbers_of p.fragments) 0 p.fragments)

-- the checks, in their order
abbrev pub query_checks : Query → List Relation → Plan → List (Check Location)
query_checks query catalogue p =
    record { why = 4; broken = where_unknown query catalogue p }
    ∷ record { why = 5; broken = where_missing query p }
    ∷ record { why = 6; broken = where_used_twice query p }
    ∷ record { why = 7; broken = where_misused p }
    ∷ record { why = 8; broken = where_early p }
    ∷ []
