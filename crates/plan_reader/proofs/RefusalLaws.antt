-- The first broken check of a text is told, at the least location that breaks it.
use Rattle.std.proofs.Common.{◌≡◌, Bool, true, false, cond, Option, Some, None, Err, ◌∷◌, refl}
use Rattle.std.specs.Prelude.{option_map}
use Rattle.toml.specs.Data.{Members}
use Rattle.med_prelude.specs.Texts.{Bytes}
use Rattle.text_reading.specs.Checks.{IsExact, first_broken}
use Rattle.text_reading.specs.Faults.{broken_if}
use Rattle.text_reading.specs.declared.checks.Broken.{Broken}
use Rattle.text_reading.proofs.CheckLaws as checks
use Rattle.plan_reader.specs.Faults.{fault_of}
use Rattle.plan_reader.specs.Locations.{is_up_to, location_order, of_plan}
use Rattle.plan_reader.specs.Parts.{plan_in}
use Rattle.plan_reader.specs.Reading.{checks_of, document_checks, document_of, is_too_long, of_whole, plan_of, refusal, says, unless_broken}
use Rattle.plan_reader.specs.declared.location.Location.{Location}
use Rattle.plan_reader.specs.declared.plan.Plan.{Plan}

pub exact : (text : Bytes) → IsExact is_up_to (checks_of text) (first_broken is_up_to (checks_of text))
exact text = checks.exact is_up_to location_order (checks_of text)

told_by : (found : Option (Broken Location)) (plan : Plan) → refusal (unless_broken found plan) ≡ option_map fault_of found
told_by None plan = refl
told_by (Some broken) plan = refl

by_document : (document : Option Members) → refusal (says document) ≡ option_map fault_of (first_broken is_up_to (document_checks document))
by_document None = refl
by_document (Some doc) = told_by (first_broken is_up_to (document_checks (Some doc))) (plan_in doc)

pub told : (text : Bytes) → refusal (plan_of text) ≡ option_map fault_of (first_broken is_up_to (checks_of text))
told text = by (is_too_long text)
  where
    by : (long : Bool) → refusal (cond long (Err (of_whole 11)) (says (document_of text))) ≡ option_map fault_of (first_broken is_up_to (record { why = 11; broken = broken_if long of_plan } ∷ document_checks (document_of text)))
    by true = refl
    by false = by_document (document_of text)
