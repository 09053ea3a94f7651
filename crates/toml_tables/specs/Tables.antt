-- What a TOML table holds, by key and by kind.
use Rattle.std.specs.Prelude.{Bool, List, [], ◌∷◌, nat_eq, Option, option_map, option_and_then}
use Rattle.std.specs.Cmp.Lexicographic.{pointwise}
use Rattle.std.specs.List.{list_all, list_any}
use Rattle.toml.specs.Data.{Data, Items, no_items, item, Members, no_members, member, get_member, as_str, as_array}
use Rattle.med_prelude.specs.Texts.{Bytes}

abbrev pub items_list : Items → List Data
items_list no_items = []
items_list (item d ds) = d ∷ items_list ds

-- the keys, in their order
abbrev pub keys_of : Members → List Bytes
keys_of no_members = []
keys_of (member key d ms) = key ∷ keys_of ms

-- the key is one of these
abbrev pub is_among : List Bytes → Bytes → Bool
is_among known key = list_any (pointwise nat_eq key) known

-- each key of the table is one of these
abbrev pub has_only : List Bytes → Members → Bool
has_only known ms = list_all (is_among known) (keys_of ms)

-- the values of an array
abbrev pub values_of : Data → Option (List Data)
values_of d = option_map items_list (as_array d)

-- the string at a key, and the values of the array at a key
abbrev pub text_at : Bytes → Members → Option Bytes
text_at key ms = option_and_then as_str (get_member key ms)

abbrev pub array_at : Bytes → Members → Option (List Data)
array_at key ms = option_and_then values_of (get_member key ms)
