-- What the relations of an accepted catalogue keep to.
use Rattle.std.specs.Prelude.{◌≡◌, ⊤, ◌≤◌, true, false, List, [], ◌∷◌, length, map}
use Rattle.std.specs.List.{AllByRecursion}
use Rattle.tuple_core.specs.declared.columns.Column.{Column}
use Rattle.med_prelude.specs.Names.{is_name}
use Rattle.med_prelude.specs.Texts.{Bytes}
use Rattle.text_reading.specs.Runs.{longest_name}
use Rattle.cat_reader.specs.Limits.{is_estimate, longest_column, longest_location, most_columns, most_groups, most_mirrors, most_relations}
use Rattle.cat_reader.specs.Relations.{same_text}
use Rattle.cat_reader.specs.declared.catalogue.Relation.{Relation}

-- a group has 1 to 8 mirrors, each with a location of 1 to 4,096 bytes
pub record IsGroupWithin (group : List Bytes) : Type 0 where
  pub some : 1 ≤ length group
  pub few : length group ≤ most_mirrors
  pub located : AllByRecursion (λ location. 1 ≤ length location) group
  pub short : AllByRecursion (λ location. length location ≤ longest_location) group

abbrev pub column_names : Relation → List Bytes
column_names r = map (λ (c : Column). c.name) r.columns

abbrev pub relation_names : List Relation → List Bytes
relation_names rs = map (λ (r : Relation). r.name) rs

-- no two of the names are the same
abbrev pub AreApart : List Bytes → Type 0
AreApart [] = ⊤
AreApart (name ∷ more) = AllByRecursion (λ other. same_text name other ≡ false) more × AreApart more

-- a relation has a name of at most 64 bytes, 1 to 16 columns of different names of 1 to 256 bytes, 1 to 16 groups, and an
-- estimate of 0 to 2^60 rows
pub record IsWithin (r : Relation) : Type 0 where
  pub named : is_name r.name ≡ true
  pub name : length r.name ≤ longest_name
  pub some_column : 1 ≤ length r.columns
  pub columns : length r.columns ≤ most_columns
  pub apart : AreApart (column_names r)
  pub named_columns : AllByRecursion (λ (c : Column). 1 ≤ length c.name) r.columns
  pub short_columns : AllByRecursion (λ (c : Column). length c.name ≤ longest_column) r.columns
  pub some_group : 1 ≤ length r.groups
  pub groups : length r.groups ≤ most_groups
  pub mirrors : AllByRecursion IsGroupWithin r.groups
  pub rows : is_estimate r.rows ≡ true

-- there are 1 to 256 relations of different names, each within its limits
pub record KeepsLimits (rs : List Relation) : Type 0 where
  pub some : 1 ≤ length rs
  pub few : length rs ≤ most_relations
  pub apart : AreApart (relation_names rs)
  pub each : AllByRecursion IsWithin rs
