-- The atoms, the comparisons and the variables of a query as it is written, each in the text's order.
use Rattle.std.specs.Prelude.{ℕ, List, [], ◌∷◌, ◌++◌, map, flat_map, Option, Some, None}
use Rattle.std.specs.List.{filter_map}
use Rattle.med_prelude.specs.Texts.{Bytes}
use Rattle.query_syntax.specs.declared.syntax.Part.{Part}
use Rattle.query_syntax.specs.declared.syntax.Part.TheVariants.{Atom, Comparison}
use Rattle.query_syntax.specs.declared.syntax.WrittenTerm.{WrittenTerm}
use Rattle.query_syntax.specs.declared.syntax.Syntax.{Syntax}
use Rattle.query_syntax.specs.declared.syntax.Word.{Word}
use Rattle.query_syntax.specs.declared.syntax.NamedTerm.{NamedTerm}
use Rattle.query_syntax.specs.declared.syntax.NamedTerm.TheVariants.{Variable, Constant}
use Rattle.query_syntax.specs.declared.syntax.WrittenAtom.{WrittenAtom}
use Rattle.query_syntax.specs.declared.syntax.WrittenComparison.{WrittenComparison}
use Rattle.query_reader.specs.Mentions.{first_mentions}

-- a variable's name, and the offset where it stands
abbrev pub Occurrence : Type 0
Occurrence = Bytes × ℕ

abbrev pub word_occurrence : Word → Occurrence
word_occurrence word = (word.name, word.at)

-- the name of a variable with what is said of it; nothing for a constant
abbrev pub mentions_of : {V : Type 0} → V → NamedTerm → List (Bytes × V)
mentions_of value (Variable name) = (name, value) ∷ []
mentions_of value (Constant constant) = []

abbrev pub term_variables : WrittenTerm → List Occurrence
term_variables term = mentions_of term.at term.written

abbrev pub atom_variables : WrittenAtom → List Occurrence
atom_variables atom = flat_map term_variables atom.terms

abbrev pub comparison_variables : WrittenComparison → List Occurrence
comparison_variables comparison = word_occurrence comparison.left ∷ term_variables comparison.right

abbrev pub part_variables : Part → List Occurrence
part_variables (Atom atom) = atom_variables atom
part_variables (Comparison comparison) = comparison_variables comparison

abbrev pub head_variables : Syntax → List Occurrence
head_variables syntax = map word_occurrence syntax.head

-- all occurrences of variables, the head's first
abbrev pub variables_of : Syntax → List Occurrence
variables_of syntax = head_variables syntax ++ flat_map part_variables syntax.parts

abbrev pub atom_in : Part → Option WrittenAtom
atom_in (Atom atom) = Some atom
atom_in (Comparison comparison) = None

abbrev pub comparison_in : Part → Option WrittenComparison
comparison_in (Atom atom) = None
comparison_in (Comparison comparison) = Some comparison

-- a query as it is written, taken apart
pub record Pieces : Type 0 where
  pub head : List Occurrence
  pub atoms : List WrittenAtom
  pub comparisons : List WrittenComparison
  -- each variable once, where it stands first
  pub variables : List Occurrence

abbrev pub pieces_of : Syntax → Pieces
pieces_of syntax = record {
  head = head_variables syntax;
  atoms = filter_map atom_in syntax.parts;
  comparisons = filter_map comparison_in syntax.parts;
  variables = first_mentions (variables_of syntax);
}
