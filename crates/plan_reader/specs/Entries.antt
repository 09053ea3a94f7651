-- What a table of a plan has at its keys.
use Rattle.std.specs.Prelude.{List, [], ◌∷◌, Option, Some, None, option_map, option_and_then, unwrap_or}
use Rattle.toml.specs.Data.{Data, Members, no_members, member, get_member, as_table}
use Rattle.toml.specs.View.{view}
use Rattle.med_prelude.specs.Texts.{Bytes}
use Rattle.toml_tables.specs.Tables.{array_at}
use Rattle.plan_reader.specs.declared.entries.Entry.{Entry as SeenEntry}

-- a key with its value
abbrev pub Entry : Type 0
Entry = Bytes × Data

abbrev pub entries_of : Members → List Entry
entries_of no_members = []
entries_of (member key d ms) = (key, d) ∷ entries_of ms

-- an entry that references point to
abbrev pub entry_seen : SeenEntry → Entry
entry_seen e = (e.key.now, view e.value.now)

-- what is read at a key, if anything stands there; none where what stands there can't be read so
abbrev pub given : {X : Type 0} → (Data → Option X) → Bytes → Members → Option (Option X)
given {X} read key ms = elim (get_member key ms) as (λ _. Option (Option X)) [ None ↦ Some None | Some d ↦ option_map (λ x. Some x) (read d) ]

-- what was read at a key, or what stands for it
abbrev pub settled : {X : Type 0} → X → Option (Option X) → X
settled x None = x
settled x (Some None) = x
settled x (Some (Some y)) = y

-- the values of the array at a key, and the entries of the table at a key
abbrev pub values_at : Bytes → Members → List Data
values_at key ms = unwrap_or (array_at key ms) []

abbrev pub entries_in : Option Members → List Entry
entries_in None = []
entries_in (Some ms) = entries_of ms

abbrev pub entries_at : Bytes → Members → List Entry
entries_at key ms = entries_in (option_and_then as_table (get_member key ms))
