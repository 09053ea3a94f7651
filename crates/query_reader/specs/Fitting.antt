-- What an accepted query keeps to.
use Rattle.std.specs.Prelude.{◌≡◌, ⊤, ℕ, ◌≤◌, ◌<◌, List, length, flat_map, slice_get, Some, Contains}
use Rattle.std.specs.List.{AllByRecursion}
use Rattle.cat_reader.specs.declared.catalogue.Relation.{Relation}
use Rattle.row_match.specs.Filters.{comparison_variables}
use Rattle.row_match.specs.Patterns.{term_variables}
use Rattle.row_match.specs.declared.filter.Comparison.{Comparison}
use Rattle.row_match.specs.declared.pattern.Term.{Term}
use Rattle.row_match.specs.declared.pattern.Term.TheVariants.{Constant, Variable}
use Rattle.query_core.specs.declared.query.Atom.{Atom}
use Rattle.query_core.specs.declared.query.Query.{Query}
use Rattle.query_reader.specs.Limits.{longest_head, most_atoms, most_comparisons, most_variables}

-- a variable's number is below 64
abbrev pub IsNumbered : Term → Type 0
IsNumbered (Variable number) = number < most_variables
IsNumbered (Constant constant) = ⊤

-- the atom's relation is in the catalogue, and it has a term for each column
pub record FitsRelation (catalogue : List Relation) (atom : Atom) : Type 0 where
  pub relation : Relation
  pub is_there : slice_get catalogue atom.relation ≡ Some relation
  pub terms : length atom.terms ≡ length relation.columns
  pub numbered : AllByRecursion IsNumbered atom.terms

-- both sides of the comparison are numbered
abbrev pub HasNumberedSides : Comparison → Type 0
HasNumberedSides comparison = IsNumbered comparison.left × IsNumbered comparison.right

-- the variables of the atoms' terms, each as often as it stands there
abbrev pub variables_in : List Atom → List ℕ
variables_in atoms = flat_map (λ atom. term_variables atom.terms) atoms

-- the variable stands in one of the atoms
abbrev pub StandsIn : List Atom → ℕ → Type 0
StandsIn atoms variable = Contains (variables_in atoms) variable

-- 1 to 64 variables in the head, 1 to 8 atoms that fit their relations, at most 32 comparisons, and at most 64
-- variables. Each variable of the head and of a comparison stands in an atom.
pub record PartsFit (catalogue : List Relation) (head : List ℕ) (atoms : List Atom) (comparisons : List Comparison) : Type 0 where
  pub some_head : 1 ≤ length head
  pub short_head : length head ≤ longest_head
  pub numbered_head : AllByRecursion (λ variable. variable < most_variables) head
  pub head_in_atoms : AllByRecursion (StandsIn atoms) head
  pub some_atom : 1 ≤ length atoms
  pub few_atoms : length atoms ≤ most_atoms
  pub each_atom : AllByRecursion (FitsRelation catalogue) atoms
  pub few_comparisons : length comparisons ≤ most_comparisons
  pub each_comparison : AllByRecursion HasNumberedSides comparisons
  pub comparisons_in_atoms : AllByRecursion (StandsIn atoms) (comparison_variables comparisons)

-- the parts of a query fit the catalogue
abbrev pub FitsCatalogue : List Relation → Query → Type 0
FitsCatalogue catalogue query = PartsFit catalogue query.head query.atoms query.comparisons
