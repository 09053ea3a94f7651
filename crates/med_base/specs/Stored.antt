-- The texts of a shelf and of a calm opener in memory.
use Rattle.std.specs.Prelude.{Bool, ◌≤◌, List, [], All, length, Some, option_map, unwrap_or, find}
use Rattle.std.specs.Str.{bytes_eq}
use Rattle.med_prelude.specs.Texts.{Bytes, ToldBytes}
use Rattle.med_base.specs.Outside.{most_left}
use Rattle.med_base.specs.declared.memory.shelf.Stored.{Stored}

abbrev pub is_named : Bytes → Stored → Bool
is_named name stored = bytes_eq stored.name name

-- the text of the first entry of that name
abbrev pub text_named : List Stored → Bytes → ToldBytes
text_named texts name = option_map (λ stored. stored.bytes.items) (find (is_named name) texts)

-- every location has a text: that of its first entry, or none at all
abbrev pub text_or_empty : List Stored → Bytes → ToldBytes
text_or_empty texts location = Some (unwrap_or (text_named texts location) [])

-- the text is no longer than what a source can give
abbrev pub FitsSource : Stored → Type 0
FitsSource stored = length stored.bytes.items ≤ most_left

abbrev pub FitSources : List Stored → Type 0
FitSources texts = All FitsSource texts
