-- What a text says as a catalogue, or the first check that it breaks and where.
use Rattle.std.specs.Prelude.{◌≡◌, ⊤, ℕ, min, nat_le, ◌&&◌, not, is_none, Bool, if◌then◌else◌, List, [], ◌∷◌, length, Option, Some, None, Result, Ok, Err}
use Rattle.std.specs.List.{filter_map}
use Rattle.std.specs.Str.{is_utf8}
use Rattle.toml.specs.Data.{Members}
use Rattle.toml.specs.Parse.{parse_document}
use Rattle.med_prelude.specs.Texts.{Bytes}
use Rattle.text_reading.specs.Checks.{Check, first_broken}
use Rattle.text_reading.specs.Faults.{broken_if}
use Rattle.text_reading.specs.declared.checks.Broken.{Broken}
use Rattle.cat_reader.specs.Doubled.{where_doubled}
use Rattle.cat_reader.specs.Forms.{tables_of, where_misformed}
use Rattle.cat_reader.specs.Limits.{longest_catalogue, where_past_limits, where_empty, where_groupless}
use Rattle.cat_reader.specs.Locations.{is_up_to, of_none}
use Rattle.cat_reader.specs.Relations.{relation_in}
use Rattle.cat_reader.specs.declared.catalogue.CatalogueFault.{CatalogueFault}
use Rattle.cat_reader.specs.declared.catalogue.CatalogueFault.TheVariants.{Refused, NoMemory}
use Rattle.cat_reader.specs.declared.catalogue.Relation.{Relation}
use Rattle.cat_reader.specs.declared.locations.Where.{Where}

abbrev pub document_of : Bytes → Option Members
document_of text = if is_utf8 text then parse_document text else None

-- the relations that the document's tables say
unfoldable pub relations_of : Members → List Relation
relations_of document = elim (tables_of document) as (λ _. List Relation) [ None ↦ [] | Some tables ↦ filter_map relation_in tables ]

abbrev pub relations_in : Option Members → List Relation
relations_in None = []
relations_in (Some document) = relations_of document

-- the checks of relations, in their order
abbrev pub relation_checks : List Relation → List (Check Where)
relation_checks rs =
    record { why = 3; broken = where_doubled rs }
    ∷ record { why = 4; broken = where_past_limits rs }
    ∷ record { why = 5; broken = where_empty rs }
    ∷ record { why = 6; broken = where_groupless rs }
    ∷ []

-- the checks of a text that isn't too long: it is TOML, it has its form, and its relations keep their checks
abbrev pub document_checks : Option Members → List (Check Where)
document_checks None = record { why = 1; broken = of_none ∷ [] } ∷ []
document_checks (Some document) =
    record { why = 1; broken = [] }
    ∷ record { why = 2; broken = where_misformed document }
    ∷ relation_checks (relations_of document)

abbrev pub is_too_long : Bytes → Bool
is_too_long text = not (nat_le (length text) longest_catalogue)

-- the checks of a text, in their order: its size comes first
abbrev pub checks_of : Bytes → List (Check Where)
checks_of text = record { why = 4; broken = broken_if (is_too_long text) of_none } ∷ document_checks (document_of text)

-- the greatest number that is told of a relation or an item; it stands for all greater ones
abbrev pub greatest_told : ℕ
greatest_told = 4294967295

-- what is told of a broken check
abbrev pub fault_of : Broken Where → CatalogueFault
fault_of broken = Refused broken.why (min broken.at.relation greatest_told) (min broken.at.item greatest_told)

-- a broken check, where the fault is of no relation
abbrev pub of_no_relation : ℕ → CatalogueFault
of_no_relation why = Refused why 0 0

-- the relations, unless a check is broken
abbrev pub unless_broken : Option (Broken Where) → List Relation → Result (List Relation) CatalogueFault
unless_broken None relations = Ok relations
unless_broken (Some broken) relations = Err (fault_of broken)

-- what a text that isn't too long says
abbrev pub document_says : Option Members → Result (List Relation) CatalogueFault
document_says document = unless_broken (first_broken is_up_to (document_checks document)) (relations_in document)

-- the relations that the text says, or the first check that it breaks, at the least location that breaks it
abbrev pub catalogue_of : Bytes → Result (List Relation) CatalogueFault
catalogue_of text = unless_broken (first_broken is_up_to (checks_of text)) (relations_in (document_of text))

-- a text that isn't too long and isn't TOML
abbrev pub is_not_toml : Bytes → Bool
is_not_toml text = nat_le (length text) longest_catalogue && is_none (document_of text)

-- the number of the check that is broken, or 0 where none is
abbrev pub why_of : Result (List Relation) CatalogueFault → ℕ
why_of (Ok relations) = 0
why_of (Err (Refused why relation item)) = why
why_of (Err NoMemory) = 0

-- the answer is what the text says, unless memory ran out
abbrev pub AnswersCatalogue : Result (List Relation) CatalogueFault → Result (List Relation) CatalogueFault → Type 0
AnswersCatalogue (Ok relations) says = says ≡ Ok relations
AnswersCatalogue (Err (Refused why relation item)) says = says ≡ Err (Refused why relation item)
AnswersCatalogue (Err NoMemory) says = ⊤
