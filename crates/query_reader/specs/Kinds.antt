-- The relations that atoms ask for, and the kinds of their terms.
use Rattle.std.specs.Prelude.{Bool, true, false, not, List, [], ◌∷◌, flat_map, Option, Some, None}
use Rattle.std.specs.List.{find}
use Rattle.med_prelude.specs.Texts.{Bytes}
use Rattle.cat_reader.specs.Relations.{same_text}
use Rattle.cat_reader.specs.declared.catalogue.Relation.{Relation}
use Rattle.tuple_core.specs.declared.columns.Column.{Column}
use Rattle.tuple_core.specs.declared.columns.Kind.{Kind}
use Rattle.tuple_core.specs.declared.columns.Kind.TheVariants as kind
use Rattle.tuple_core.specs.declared.value.Value.{Value}
use Rattle.tuple_core.specs.declared.value.Value.TheVariants as value
use Rattle.query_syntax.specs.declared.syntax.WrittenTerm.{WrittenTerm}
use Rattle.query_syntax.specs.declared.syntax.NamedTerm.{NamedTerm}
use Rattle.query_syntax.specs.declared.syntax.NamedTerm.TheVariants.{Variable, Constant}
use Rattle.query_syntax.specs.declared.syntax.WrittenAtom.{WrittenAtom}
use Rattle.query_syntax.specs.declared.syntax.WrittenComparison.{WrittenComparison}
use Rattle.query_reader.specs.Mentions.{value_named}
use Rattle.query_reader.specs.Parts.{mentions_of}

-- the relation of this name
abbrev pub relation_named : List Relation → Bytes → Option Relation
relation_named catalogue name = find (λ r. same_text name r.name) catalogue

abbrev pub columns_in : Option Relation → List Column
columns_in None = []
columns_in (Some relation) = relation.columns

-- the columns of the atom's relation; none where it isn't in the catalogue
abbrev pub columns_of : List Relation → WrittenAtom → List Column
columns_of catalogue atom = columns_in (relation_named catalogue atom.relation.name)

-- a term of an atom, and the kind of its column
abbrev pub TypedTerm : Type 0
TypedTerm = WrittenTerm × Kind

abbrev pub terms_with_kinds : List WrittenTerm → List Column → List TypedTerm
terms_with_kinds (term ∷ terms) (column ∷ columns) = (term, column.kind) ∷ terms_with_kinds terms columns
terms_with_kinds _ _ = []

-- the terms of all atoms, each with the kind of its column
abbrev pub typed_terms : List Relation → List WrittenAtom → List TypedTerm
typed_terms catalogue atoms = flat_map (λ atom. terms_with_kinds atom.terms (columns_of catalogue atom)) atoms

-- each variable of an atom with the kind of the column where it stands
abbrev pub variable_kinds : List TypedTerm → List (Bytes × Kind)
variable_kinds terms = flat_map (λ t. mentions_of t.1 t.0.written) terms

abbrev pub kind_of : Value → Kind
kind_of (value.Int i) = kind.Int
kind_of (value.Text t) = kind.Text
kind_of (value.Bool b) = kind.Bool

-- a variable has the kind of its first column, and none where it is in no atom
abbrev pub term_kind : List (Bytes × Kind) → NamedTerm → Option Kind
term_kind kinds (Variable name) = value_named kinds name
term_kind kinds (Constant constant) = Some (kind_of constant)

abbrev pub same_kind : Kind → Kind → Bool
same_kind kind.Int kind.Int = true
same_kind kind.Text kind.Text = true
same_kind kind.Bool kind.Bool = true
same_kind _ _ = false

-- both are kinds, and they differ
abbrev pub differ : Option Kind → Option Kind → Bool
differ (Some a) (Some b) = not (same_kind a b)
differ _ _ = false

-- the kind of the term isn't its column's
abbrev pub is_misfit : List (Bytes × Kind) → TypedTerm → Bool
is_misfit kinds t = differ (term_kind kinds t.0.written) (Some t.1)

-- the two sides have kinds that differ
abbrev pub is_clash : List (Bytes × Kind) → WrittenComparison → Bool
is_clash kinds comparison = differ (value_named kinds comparison.left.name) (term_kind kinds comparison.right.written)
