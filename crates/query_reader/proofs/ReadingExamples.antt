-- The definitions, computed on small queries.
use Rattle.std.proofs.Common.{◌≡◌, ℕ, List, [], ◌∷◌, Ok, Err, refl}
use Rattle.std.specs.Prelude.{codes, pos}
use Rattle.cat_reader.specs.declared.catalogue.Relation.{Relation}
use Rattle.query_syntax.specs.declared.syntax.Part.{Part}
use Rattle.query_syntax.specs.declared.syntax.Part.TheVariants.{Atom, Comparison}
use Rattle.query_syntax.specs.declared.syntax.WrittenTerm.{WrittenTerm}
use Rattle.query_syntax.specs.declared.syntax.Syntax.{Syntax}
use Rattle.query_syntax.specs.declared.syntax.Word.{Word}
use Rattle.query_syntax.specs.declared.syntax.NamedTerm.TheVariants as written
use Rattle.row_match.specs.declared.pattern.Term.TheVariants.{Constant, Variable}
use Rattle.text_reading.specs.Checks.{broken_at}
use Rattle.tuple_core.specs.declared.columns.Kind.TheVariants as kind
use Rattle.tuple_core.specs.declared.comparing.Op.TheVariants.{Lt}
use Rattle.tuple_core.specs.declared.value.Value.TheVariants as value
use Rattle.query_reader.specs.Parts.{pieces_of}
use Rattle.query_reader.specs.Reading.{checked_query}

-- `r(x:int, y:int)` and `city(x:text)`
catalogue : List Relation
catalogue =
    record { name = codes "r"; columns = record { name = codes "x"; kind = kind.Int } ∷ record { name = codes "y"; kind = kind.Int } ∷ []; groups = []; rows = pos 1 }
    ∷ record { name = codes "city"; columns = record { name = codes "x"; kind = kind.Text } ∷ []; groups = []; rows = pos 1 }
    ∷ []

five : WrittenTerm
five = record { written = written.Constant (value.Int (pos 5)); at = 21 }

variable : Word → WrittenTerm
variable word = record { written = written.Variable word.name; at = word.at }

word : List ℕ → ℕ → Word
word name at = record { name = name; at = at }

atom : Word → List WrittenTerm → Part
atom relation terms = Atom (record { relation = relation; terms = terms })

syntax_with : Word → List Part → Syntax
syntax_with head parts = record { name = word (codes "q") 0; head = head ∷ []; parts = parts }

-- `q(y) :- r(x, y), y < 5.`
accepted : checked_query catalogue (pieces_of (syntax_with (word (codes "y") 2) (atom (word (codes "r") 8) (variable (word (codes "x") 10) ∷ variable (word (codes "y") 13) ∷ []) ∷ Comparison (record { left = word (codes "y") 17; op = Lt; right = five }) ∷ [])))
    ≡ Ok (record {
      head = 0 ∷ [];
      atoms = record { relation = 0; terms = Variable 1 ∷ Variable 0 ∷ [] } ∷ [];
      comparisons = record { left = Variable 0; op = Lt; right = Constant (value.Int (pos 5)) } ∷ [];
    })
unfolding checked_query catalogue five variable word atom syntax_with
accepted = refl

-- `q(x) :- city(x), x < 5.`
clashing : checked_query catalogue (pieces_of (syntax_with (word (codes "x") 2) (atom (word (codes "city") 8) (variable (word (codes "x") 13) ∷ []) ∷ Comparison (record { left = word (codes "x") 17; op = Lt; right = five }) ∷ [])))
    ≡ Err (broken_at 4 17)
unfolding checked_query catalogue five variable word atom syntax_with
clashing = refl

-- `q(y) :- city(x).`
loose : checked_query catalogue (pieces_of (syntax_with (word (codes "y") 2) (atom (word (codes "city") 8) (variable (word (codes "x") 13) ∷ []) ∷ [])))
    ≡ Err (broken_at 5 2)
unfolding checked_query catalogue five variable word atom syntax_with
loose = refl
