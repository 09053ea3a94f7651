-- Check 1 is told exactly of a text that isn't TOML.
use Rattle.std.proofs.Common.{◌≡◌, ℕ, ◌==◌, ◌&&◌, not, Bool, true, false, List, [], ◌∷◌, length, Option, Some, None, refl}
use Rattle.std.specs.Prelude.{IfSome, is_none, nat_le}
use Rattle.toml.specs.Data.{Members}
use Rattle.med_prelude.specs.Texts.{Bytes}
use Rattle.text_reading.specs.Checks.{Check, first_broken, told_first}
use Rattle.text_reading.specs.Faults.{broken_if}
use Rattle.text_reading.specs.Order.{least}
use Rattle.text_reading.specs.declared.checks.Broken.{Broken}
use Rattle.cat_reader.specs.Catalogue.{catalogue_of, document_checks, document_of, is_not_toml, relation_checks, relations_in, relations_of, unless_broken, why_of}
use Rattle.cat_reader.specs.Forms.{where_misformed}
use Rattle.cat_reader.specs.Limits.{longest_catalogue}
use Rattle.cat_reader.specs.Locations.{is_up_to, of_none}
use Rattle.cat_reader.specs.declared.catalogue.Relation.{Relation}
use Rattle.cat_reader.specs.declared.locations.Where.{Where}

-- checks of which none is the first
abbrev AreLater : List (Check Where) → Type 0
AreLater [] = Unit {0}
AreLater (c ∷ cs) = ((c.why == 1) ≡ false) × AreLater cs

abbrev IsLater : Option (Broken Where) → Type 0
IsLater told = IfSome told (λ broken. (broken.why == 1) ≡ false)

later_first : (why : ℕ) (found : Option Where) (later : Option (Broken Where)) → (why == 1) ≡ false → IsLater later → IsLater (told_first why found later)
later_first why None later e rest = rest
later_first why (Some at) later e rest = e

later_told : (cs : List (Check Where)) → AreLater cs → IsLater (first_broken is_up_to cs)
later_told [] later = tt
later_told (c ∷ cs) later = later_first c.why (least is_up_to c.broken) (first_broken is_up_to cs) later.0 (later_told cs later.1)

not_one : (told : Option (Broken Where)) (rs : List Relation) → IsLater told → (why_of (unless_broken told rs) == 1) ≡ false
not_one None rs later = refl
not_one (Some broken) rs later = later

by_parts : (small : Bool) (document : Option Members)
    → (why_of (unless_broken (first_broken is_up_to (record { why = 4; broken = broken_if (not small) of_none } ∷ document_checks document)) (relations_in document)) == 1) ≡ (small && is_none document)
by_parts false document = refl
by_parts true None = refl
by_parts true (Some document) =
    not_one (first_broken is_up_to (record { why = 2; broken = where_misformed document } ∷ relation_checks (relations_of document))) (relations_of document)
    (later_told (record { why = 2; broken = where_misformed document } ∷ relation_checks (relations_of document)) (refl, (refl, (refl, (refl, (refl, tt))))))

pub one_is_not_toml : (text : Bytes) → (why_of (catalogue_of text) == 1) ≡ is_not_toml text
one_is_not_toml text = by_parts (nat_le (length text) longest_catalogue) (document_of text)
