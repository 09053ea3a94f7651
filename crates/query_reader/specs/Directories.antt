-- The relations of a catalogue by name.
use Rattle.std.specs.Prelude.{ℕ, ◌+◌, List, [], ◌∷◌}
use Rattle.med_prelude.specs.Texts.{Bytes}
use Rattle.cat_reader.specs.declared.catalogue.Relation.{Relation}

-- each relation's name with its position, where the first one has this position
abbrev pub relation_indices : ℕ → List Relation → List (Bytes × ℕ)
relation_indices position [] = []
relation_indices position (relation ∷ more) = (relation.name, position) ∷ relation_indices (position + 1) more
