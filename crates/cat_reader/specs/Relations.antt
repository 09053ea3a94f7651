-- What a table of a catalogue says of its relation. What isn't of its form says nothing: the check of forms refuses it.
use Rattle.std.specs.Prelude.{ℕ, ℤ, pos, Bool, ◌==◌, if◌then◌else◌, List, [], length, map, nat_eq, codes, Option, Some, None, option_map, option_and_then, unwrap_or}
use Rattle.std.specs.Cmp.Lexicographic.{pointwise}
use Rattle.std.specs.List.{filter_map}
use Rattle.std.specs.Path.{rsplit_once}
use Rattle.toml.specs.Data.{Data, Members, get_member, as_str, as_integer, as_table}
use Rattle.med_prelude.specs.Names.{is_name}
use Rattle.med_prelude.specs.Texts.{Bytes}
use Rattle.tuple_core.specs.declared.columns.Column.{Column}
use Rattle.tuple_core.specs.declared.columns.Kind.{Kind}
use Rattle.tuple_core.specs.declared.columns.Kind.TheVariants as kind
use Rattle.toml_tables.specs.Tables.{values_of, text_at, array_at}
use Rattle.cat_reader.specs.declared.catalogue.Relation.{Relation}

abbrev pub same_text : Bytes → Bytes → Bool
same_text = pointwise nat_eq

unfoldable pub kind_of : Bytes → Option Kind
kind_of word =
    if same_text word (codes "int") then Some kind.Int
    else if same_text word (codes "text") then Some kind.Text
    else if same_text word (codes "bool") then Some kind.Bool
    else None

-- a name that isn't empty, and the word of a kind
abbrev pub named_kind : Bytes × Bytes → Option Column
named_kind (name, word) =
    if length name == 0 then None
    else option_map (λ k. record { name = name; kind = k }) (kind_of word)

-- the byte `:`
abbrev pub colon : ℕ
colon = 58

-- the name is all before the last colon
abbrev pub column_of : Bytes → Option Column
column_of text = option_and_then named_kind (rsplit_once colon text)

unfoldable pub column_in : Data → Option Column
column_in d = option_and_then column_of (as_str d)

-- the values of the array at a key
abbrev pub values_at : Bytes → Members → List Data
values_at key ms = unwrap_or (array_at key ms) []

abbrev pub columns_of : Members → List Column
columns_of ms = filter_map column_in (values_at (codes "columns") ms)

-- the locations of a group's mirrors
unfoldable pub group_in : Data → List Bytes
group_in d = filter_map as_str (unwrap_or (values_of d) [])

abbrev pub groups_of : Members → List (List Bytes)
groups_of ms = map group_in (values_at (codes "groups") ms)

abbrev pub name_of : Members → Option Bytes
name_of ms = option_and_then (λ text. if is_name text then Some text else None) (text_at (codes "name") ms)

-- the estimate where none is given
abbrev pub default_rows : ℕ
default_rows = 1000

abbrev pub rows_of : Members → Option ℤ
rows_of ms = elim (get_member (codes "rows") ms) [ None ↦ Some (pos default_rows) | Some d ↦ as_integer d ]

-- the relation of that name and that estimate
abbrev pub relation_with : Members → Bytes → ℤ → Relation
relation_with ms name rows = record { name = name; columns = columns_of ms; groups = groups_of ms; rows = rows }

abbrev pub relation_of : Members → Option Relation
relation_of ms = option_and_then (λ name. option_map (relation_with ms name) (rows_of ms)) (name_of ms)

unfoldable pub relation_in : Data → Option Relation
relation_in d = option_and_then relation_of (as_table d)
