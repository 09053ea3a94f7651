-- The check of forms: each entry is there, known, of its kind and of its form. What is broken has the index of a column or a
-- group, or 0 where the fault is of none.
use Rattle.std.specs.Prelude.{ℕ, Bool, false, ◌==◌, ◌||◌, not, List, [], ◌∷◌, ◌++◌, length, codes, Option, Some, None, is_none, is_some, option_and_then, if◌then◌else◌}
use Rattle.std.specs.List.{list_all}
use Rattle.toml.specs.Data.{Data, Members, as_str, as_table}
use Rattle.med_prelude.specs.Texts.{Bytes}
use Rattle.text_reading.specs.Faults.{broken_if, indices_where}
use Rattle.toml_tables.specs.Tables.{array_at, has_only, keys_of, values_of}
use Rattle.cat_reader.specs.Locations.{in_each, of_none}
use Rattle.cat_reader.specs.Relations.{column_in, name_of, rows_of, values_at}
use Rattle.cat_reader.specs.declared.locations.Where.{Where}

-- the keys that a relation's table may have
abbrev pub relation_keys : List Bytes
relation_keys = codes "name" ∷ codes "columns" ∷ codes "groups" ∷ codes "rows" ∷ []

-- a key is unknown, there is no name, or the estimate is no integer
abbrev pub is_own_misformed : Members → Bool
is_own_misformed ms = not (has_only relation_keys ms) || is_none (name_of ms) || is_none (rows_of ms)

-- the value is the text of a column
abbrev pub is_no_column : Data → Bool
is_no_column d = is_none (column_in d)

abbrev pub is_string : Data → Bool
is_string d = is_some (as_str d)

-- the value isn't a list of texts
unfoldable pub is_no_group : Data → Bool
is_no_group d = not (elim (values_of d) as (λ _. Bool) [ None ↦ false | Some values ↦ list_all is_string values ])

-- there is a column, and each is one
abbrev pub misformed_columns : Members → List ℕ
misformed_columns ms =
    let values = values_at (codes "columns") ms in
    broken_if (length values == 0) 0 ++ indices_where is_no_column 0 values

-- there is a list of groups, and each is one
abbrev pub misformed_groups : Members → List ℕ
misformed_groups ms = broken_if (is_none (array_at (codes "groups") ms)) 0 ++ indices_where is_no_group 0 (values_at (codes "groups") ms)

unfoldable pub misformed_items : Members → List ℕ
misformed_items ms = broken_if (is_own_misformed ms) 0 ++ misformed_columns ms ++ misformed_groups ms

unfoldable pub misformed_in : Data → List ℕ
misformed_in d = elim (as_table d) as (λ _. List ℕ) [ None ↦ 0 ∷ [] | Some ms ↦ misformed_items ms ]

abbrev pub is_table : Data → Bool
is_table d = is_some (as_table d)

-- one or more tables
abbrev pub some_tables : List Data → Option (List Data)
some_tables values = if length values == 0 then None else (if list_all is_table values then Some values else None)

-- the document's one key is `relation`, and holds one or more tables
abbrev pub tables_of : Members → Option (List Data)
tables_of document =
    if length (keys_of document) == 1
    then option_and_then some_tables (array_at (codes "relation") document)
    else None

-- the document has tables of relations, each of its form
unfoldable pub where_misformed : Members → List Where
where_misformed document = elim (tables_of document) as (λ _. List Where) [ None ↦ of_none ∷ [] | Some tables ↦ in_each misformed_in 0 tables ]
