-- The checks of sizes: of what there may be too much, and of what there must be some.
use Rattle.std.specs.Prelude.{ℕ, ℤ, pos, negsuc, ◌==◌, ◌||◌, ◌^◌, not, nat_le, nat_lt, Bool, false, List, ◌++◌, length, map}
use Rattle.std.specs.List.{list_any}
use Rattle.med_prelude.specs.Texts.{Bytes}
use Rattle.text_reading.specs.Faults.{broken_if, index_past, indices_where}
use Rattle.text_reading.specs.Runs.{longest_name}
use Rattle.tuple_core.specs.declared.columns.Column.{Column}
use Rattle.cat_reader.specs.Locations.{in_each, of_relation}
use Rattle.cat_reader.specs.declared.catalogue.Relation.{Relation}
use Rattle.cat_reader.specs.declared.locations.Where.{Where}

-- the most bytes of a catalogue's text
abbrev pub longest_catalogue : ℕ
longest_catalogue = 1048576

-- the most relations, columns and groups of a relation, and mirrors of a group
abbrev pub most_relations : ℕ
most_relations = 256

abbrev pub most_columns : ℕ
most_columns = 16

abbrev pub most_groups : ℕ
most_groups = 16

abbrev pub most_mirrors : ℕ
most_mirrors = 8

-- the most bytes of a column's name and of a mirror's location
abbrev pub longest_column : ℕ
longest_column = 256

abbrev pub longest_location : ℕ
longest_location = 4096

abbrev pub greatest_estimate : ℕ
greatest_estimate = 2 ^ 60

abbrev pub is_longer : ℕ → Bytes → Bool
is_longer limit bytes = nat_lt limit (length bytes)

-- 0 to 2^60
abbrev pub is_estimate : ℤ → Bool
is_estimate (pos n) = nat_le n greatest_estimate
is_estimate (negsuc n) = false

abbrev pub is_long_column : Column → Bool
is_long_column c = is_longer longest_column c.name

-- too many mirrors, or a location that is too long
abbrev pub is_large_group : List Bytes → Bool
is_large_group group = nat_lt most_mirrors (length group) || list_any (is_longer longest_location) group

-- the relation's name or its estimate
abbrev pub is_own_broken : Relation → Bool
is_own_broken r = is_longer longest_name r.name || not (is_estimate r.rows)

-- what is past a limit in one relation
unfoldable pub items_past_limits : Relation → List ℕ
items_past_limits r =
    broken_if (is_own_broken r) 0
    ++ index_past most_columns r.columns
    ++ index_past most_groups r.groups
    ++ indices_where is_long_column 0 r.columns
    ++ indices_where is_large_group 0 r.groups

-- not too many relations, each within its limits
abbrev pub where_past_limits : List Relation → List Where
where_past_limits rs = map of_relation (index_past most_relations rs) ++ in_each items_past_limits 0 rs

-- no mirror, or a mirror without a location
abbrev pub is_empty_group : List Bytes → Bool
is_empty_group group = length group == 0 || list_any (λ location. length location == 0) group

abbrev pub empty_groups : Relation → List ℕ
empty_groups r = indices_where is_empty_group 0 r.groups

-- no group is empty, and no location
abbrev pub where_empty : List Relation → List Where
where_empty rs = in_each empty_groups 0 rs

abbrev pub no_group : Relation → List ℕ
no_group r = broken_if (length r.groups == 0) 0

-- each relation has a group
abbrev pub where_groupless : List Relation → List Where
where_groupless rs = in_each no_group 0 rs
