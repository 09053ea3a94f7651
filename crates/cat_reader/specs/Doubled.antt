-- The check of doubled names: the later one of two is broken.
use Rattle.std.specs.Prelude.{ℕ, ◌+◌, List, [], ◌∷◌, ◌++◌, map}
use Rattle.std.specs.List.{list_any}
use Rattle.med_prelude.specs.Texts.{Bytes}
use Rattle.text_reading.specs.Faults.{broken_if}
use Rattle.tuple_core.specs.declared.columns.Column.{Column}
use Rattle.cat_reader.specs.Locations.{in_each, of_relation}
use Rattle.cat_reader.specs.Relations.{same_text}
use Rattle.cat_reader.specs.declared.catalogue.Relation.{Relation}
use Rattle.cat_reader.specs.declared.locations.Where.{Where}

-- the indices, from one on, of the names that stand among those before them too
abbrev pub doubled_after : List Bytes → ℕ → List Bytes → List ℕ
doubled_after before index [] = []
doubled_after before index (name ∷ more) =
    broken_if (list_any (same_text name) before) index ++ doubled_after (before ++ name ∷ []) (index + 1) more

abbrev pub doubled_names : List Bytes → List ℕ
doubled_names names = doubled_after [] 0 names

-- no two columns of a relation have one name
abbrev pub doubled_columns : Relation → List ℕ
doubled_columns r = doubled_names (map (λ (c : Column). c.name) r.columns)

-- no two relations have one name, and no two columns of a relation
abbrev pub where_doubled : List Relation → List Where
where_doubled rs = map of_relation (doubled_names (map (λ (r : Relation). r.name) rs)) ++ in_each doubled_columns 0 rs
