-- What a text says as a query over a catalogue, or the first check that it breaks and where.
use Rattle.std.specs.Prelude.{◌≡◌, ⊤, ℕ, nat_le, if◌then◌else◌, List, length, map, Option, Some, None, Result, Ok, Err}
use Rattle.std.specs.List.{position_or_len}
use Rattle.med_prelude.specs.Texts.{Bytes}
use Rattle.med_prelude.specs.declared.reading.ReadFault.{ReadFault}
use Rattle.med_prelude.specs.declared.reading.ReadFault.TheVariants as read
use Rattle.cat_reader.specs.Relations.{same_text}
use Rattle.cat_reader.specs.declared.catalogue.Relation.{Relation}
use Rattle.query_syntax.specs.Reading.{syntax_of}
use Rattle.query_syntax.specs.declared.syntax.Syntax.{Syntax}
use Rattle.query_syntax.specs.declared.syntax.NamedTerm.{NamedTerm}
use Rattle.query_syntax.specs.declared.syntax.NamedTerm.TheVariants as written
use Rattle.query_syntax.specs.declared.syntax.WrittenAtom.{WrittenAtom}
use Rattle.query_syntax.specs.declared.syntax.WrittenComparison.{WrittenComparison}
use Rattle.row_match.specs.declared.filter.Comparison.{Comparison}
use Rattle.row_match.specs.declared.pattern.Term.{Term}
use Rattle.row_match.specs.declared.pattern.Term.TheVariants.{Constant, Variable}
use Rattle.text_reading.specs.Checks.{broken_at, first_broken}
use Rattle.text_reading.specs.declared.checks.Broken.{Broken}
use Rattle.query_reader.specs.Checks.{checks_of}
use Rattle.query_reader.specs.Limits.{longest_query}
use Rattle.query_reader.specs.Mentions.{number_named}
use Rattle.query_reader.specs.Parts.{Occurrence, Pieces, pieces_of}
use Rattle.query_core.specs.declared.query.Atom.{Atom}
use Rattle.query_core.specs.declared.query.Query.{Query}
use Rattle.query_reader.specs.declared.reading.QueryFault.{QueryFault}
use Rattle.query_reader.specs.declared.reading.QueryFault.TheVariants.{Refused, NoMemory}

-- the position of the relation in the catalogue
abbrev pub relation_index : List Relation → Bytes → ℕ
relation_index catalogue name = position_or_len (λ r. same_text name r.name) catalogue

-- a variable by its number among those of the query, or a constant
abbrev pub term_of : List Occurrence → NamedTerm → Term
term_of variables (written.Variable name) = Variable (number_named variables name)
term_of variables (written.Constant constant) = Constant constant

abbrev pub atom_of : List Relation → List Occurrence → WrittenAtom → Atom
atom_of catalogue variables atom = record {
  relation = relation_index catalogue atom.relation.name;
  terms = map (λ term. term_of variables term.written) atom.terms;
}

abbrev pub comparison_of : List Occurrence → WrittenComparison → Comparison
comparison_of variables comparison = record {
  left = Variable (number_named variables comparison.left.name);
  op = comparison.op;
  right = term_of variables comparison.right.written;
}

-- The query that is written so; its variables are numbered by their first occurrences.
abbrev pub query_of_pieces : List Relation → Pieces → Query
query_of_pieces catalogue pieces = record {
  head = map (λ variable. number_named pieces.variables variable.0) pieces.head;
  atoms = map (atom_of catalogue pieces.variables) pieces.atoms;
  comparisons = map (comparison_of pieces.variables) pieces.comparisons;
}

-- the query, unless a broken check is told
abbrev pub unless_broken : Query → Option (Broken ℕ) → Result Query (Broken ℕ)
unless_broken query None = Ok query
unless_broken query (Some broken) = Err broken

-- the query, or the first check that it breaks, at the least of its offsets
unfoldable pub checked_query : List Relation → Pieces → Result Query (Broken ℕ)
checked_query catalogue pieces = unless_broken (query_of_pieces catalogue pieces) (first_broken nat_le (checks_of catalogue pieces))

-- the query that is written so; what breaks the grammar breaks the first check
abbrev pub query_in : List Relation → Result Syntax ℕ → Result Query (Broken ℕ)
query_in catalogue (Ok syntax) = checked_query catalogue (pieces_of syntax)
query_in catalogue (Err at) = Err (broken_at 1 at)

-- at most 1,048,576 bytes that keep the grammar and the checks
abbrev pub query_of : Bytes → List Relation → Result Query (Broken ℕ)
query_of text catalogue =
    if nat_le (length text) longest_query
    then query_in catalogue (syntax_of text)
    else Err (broken_at 7 longest_query)

-- the answer is what the text says, unless memory ran out
abbrev pub GivesQuery : Result Query QueryFault → Result Query (Broken ℕ) → Type 0
GivesQuery (Ok query) reading = reading ≡ Ok query
GivesQuery (Err (Refused why at)) reading = reading ≡ Err (broken_at why at)
GivesQuery (Err NoMemory) reading = ⊤

-- a text that breaks the grammar breaks the first check
abbrev pub IsGrammarFault : ReadFault ℕ → QueryFault → Type 0
IsGrammarFault (read.Broken at) fault = fault ≡ Refused 1 at
IsGrammarFault read.NoMemory fault = fault ≡ NoMemory
