-- What a text says as a plan, or the first check that it breaks and where.
use Rattle.std.specs.Prelude.{◌≡◌, ⊤, ℕ, nat_le, not, Bool, if◌then◌else◌, List, [], ◌∷◌, length, Option, Some, None, Result, Ok, Err}
use Rattle.std.specs.Str.{is_utf8}
use Rattle.toml.specs.Data.{Members}
use Rattle.toml.specs.Parse.{parse_document}
use Rattle.med_prelude.specs.Texts.{Bytes}
use Rattle.med_base.specs.declared.status.Part.TheVariants as part
use Rattle.text_reading.specs.Checks.{Check, first_broken}
use Rattle.text_reading.specs.Faults.{broken_if}
use Rattle.text_reading.specs.declared.checks.Broken.{Broken}
use Rattle.plan_reader.specs.Faults.{fault_of}
use Rattle.plan_reader.specs.Forms.{where_misformed}
use Rattle.plan_reader.specs.Limits.{longest_plan, where_past_limits, where_treeless}
use Rattle.plan_reader.specs.Locations.{is_up_to, of_plan}
use Rattle.plan_reader.specs.Parts.{plan_in, written_of}
use Rattle.plan_reader.specs.declared.location.Location.{Location}
use Rattle.plan_reader.specs.declared.plan.Plan.{Plan}
use Rattle.plan_reader.specs.declared.plan.PlanFault.{PlanFault}
use Rattle.plan_reader.specs.declared.plan.PlanFault.TheVariants.{Refused, NoMemory}

abbrev pub document_of : Bytes → Option Members
document_of text = if is_utf8 text then parse_document text else None

-- the checks of a document whose entries have their forms
abbrev pub plan_checks : Members → List (Check Location)
plan_checks doc =
    record { why = 3; broken = where_treeless (written_of doc) }
    ∷ record { why = 11; broken = where_past_limits (plan_in doc) }
    ∷ []

-- the checks of a text that isn't too long: it is TOML, its entries have their forms, its trees are trees, and its
-- numbers are in their ranges
abbrev pub document_checks : Option Members → List (Check Location)
document_checks None = record { why = 1; broken = of_plan ∷ [] } ∷ []
document_checks (Some doc) =
    record { why = 1; broken = [] }
    ∷ record { why = 2; broken = where_misformed doc }
    ∷ plan_checks doc

abbrev pub is_too_long : Bytes → Bool
is_too_long text = not (nat_le (length text) longest_plan)

-- the checks of a text, in their order: its size comes first
abbrev pub checks_of : Bytes → List (Check Location)
checks_of text = record { why = 11; broken = broken_if (is_too_long text) of_plan } ∷ document_checks (document_of text)

-- a check that the plan as a whole breaks
abbrev pub of_whole : ℕ → PlanFault
of_whole why = Refused why part.Plan 0

-- the plan, unless a check is broken
abbrev pub unless_broken : Option (Broken Location) → Plan → Result Plan PlanFault
unless_broken None plan = Ok plan
unless_broken (Some broken) plan = Err (fault_of broken)

-- what a document says; a text that is no TOML is refused before
abbrev pub document_says : Members → Result Plan PlanFault
document_says doc = unless_broken (first_broken is_up_to (document_checks (Some doc))) (plan_in doc)

-- what a text that isn't too long says
abbrev pub says : Option Members → Result Plan PlanFault
says None = Err (of_whole 1)
says (Some doc) = document_says doc

-- The plan that the text says, or the first check that it breaks, at the least location that breaks it. A text that is
-- too long breaks check 11, before all others.
abbrev pub plan_of : Bytes → Result Plan PlanFault
plan_of text = if is_too_long text then Err (of_whole 11) else says (document_of text)

-- what the checks of a text refuse, if anything
abbrev pub refusal : Result Plan PlanFault → Option PlanFault
refusal (Ok plan) = None
refusal (Err fault) = Some fault

-- the answer is what the text says, unless memory ran out
abbrev pub AnswersPlan : Result Plan PlanFault → Result Plan PlanFault → Type 0
AnswersPlan (Ok plan) says = says ≡ Ok plan
AnswersPlan (Err (Refused why part item)) says = says ≡ Err (Refused why part item)
AnswersPlan (Err NoMemory) says = ⊤
