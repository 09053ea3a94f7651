-- The checks of a query that keeps the grammar: for each, all offsets that break it.
use Rattle.std.specs.Prelude.{ℕ, ◌==◌, Bool, not, is_none, List, [], ◌∷◌, ◌++◌, flat_map, length}
use Rattle.cat_reader.specs.declared.catalogue.Relation.{Relation}
use Rattle.query_syntax.specs.declared.syntax.WrittenAtom.{WrittenAtom}
use Rattle.query_syntax.specs.declared.syntax.WrittenComparison.{WrittenComparison}
use Rattle.text_reading.specs.Checks.{Check}
use Rattle.text_reading.specs.Faults.{each_where, first_past}
use Rattle.query_reader.specs.Kinds.{is_clash, columns_of, is_misfit, relation_named, typed_terms, variable_kinds}
use Rattle.query_reader.specs.Limits.{longest_head, most_atoms, most_comparisons, most_variables}
use Rattle.query_reader.specs.Mentions.{has_name}
use Rattle.query_reader.specs.Parts.{Occurrence, Pieces, atom_variables, comparison_variables}

abbrev pub atom_offset : WrittenAtom → ℕ
atom_offset atom = atom.relation.at

abbrev pub comparison_offset : WrittenComparison → ℕ
comparison_offset comparison = comparison.left.at

abbrev pub occurrence_offset : Occurrence → ℕ
occurrence_offset occurrence = occurrence.1

-- the atom's relation isn't in the catalogue
abbrev pub is_unknown : List Relation → WrittenAtom → Bool
is_unknown catalogue atom = is_none (relation_named catalogue atom.relation.name)

-- the atom hasn't as many terms as its relation has columns
abbrev pub is_miscounted : List Relation → WrittenAtom → Bool
is_miscounted catalogue atom = not (length atom.terms == length (columns_of catalogue atom))

-- the variable is none of these
abbrev pub is_loose : List Occurrence → Occurrence → Bool
is_loose bound occurrence = not (has_name bound occurrence.0)

-- each atom's relation is in the catalogue
abbrev pub unknown_offsets : List Relation → List WrittenAtom → List ℕ
unknown_offsets catalogue atoms = each_where (is_unknown catalogue) atom_offset atoms

-- each atom has as many terms as columns
abbrev pub miscounted_offsets : List Relation → List WrittenAtom → List ℕ
miscounted_offsets catalogue atoms = each_where (is_miscounted catalogue) atom_offset atoms

-- kinds agree, in the terms of atoms and in comparisons
abbrev pub kind_offsets : List Relation → List WrittenAtom → List WrittenComparison → List ℕ
kind_offsets catalogue atoms comparisons =
    let terms = typed_terms catalogue atoms in
    let kinds = variable_kinds terms in
    each_where (is_misfit kinds) (λ t. t.0.at) terms ++ each_where (is_clash kinds) comparison_offset comparisons

-- each of the variables is in an atom
abbrev pub loose_offsets : List WrittenAtom → List Occurrence → List ℕ
loose_offsets atoms variables = each_where (is_loose (flat_map atom_variables atoms)) occurrence_offset variables

-- at most 8 atoms, 64 variables, 32 comparisons and 64 variables in the head
abbrev pub limit_offsets : Pieces → List ℕ
limit_offsets pieces =
    first_past most_atoms atom_offset pieces.atoms
    ++ first_past most_variables occurrence_offset pieces.variables
    ++ first_past most_comparisons comparison_offset pieces.comparisons
    ++ first_past longest_head occurrence_offset pieces.head

-- the checks, in their order
abbrev pub checks_of : List Relation → Pieces → List (Check ℕ)
checks_of catalogue pieces =
    record { why = 2; broken = unknown_offsets catalogue pieces.atoms }
    ∷ record { why = 3; broken = miscounted_offsets catalogue pieces.atoms }
    ∷ record { why = 4; broken = kind_offsets catalogue pieces.atoms pieces.comparisons }
    ∷ record { why = 5; broken = loose_offsets pieces.atoms pieces.head }
    ∷ record { why = 6; broken = loose_offsets pieces.atoms (flat_map comparison_variables pieces.comparisons) }
    ∷ record { why = 7; broken = limit_offsets pieces }
    ∷ []
