-- What a plan is found to be for a query: checked, or refused by the first check that it breaks and where.
use Rattle.std.specs.Prelude.{◌≡◌, ⊤, List, ◌++◌, length, Option, Some, None, Result, Ok, Err}
use Rattle.cat_reader.specs.declared.catalogue.Relation.{Relation}
use Rattle.query_core.specs.declared.query.Query.{Query}
use Rattle.text_reading.specs.Checks.{Check, first_broken}
use Rattle.text_reading.specs.declared.checks.Broken.{Broken}
use Rattle.plan_reader.specs.Faults.{fault_of}
use Rattle.plan_reader.specs.Locations.{is_up_to}
use Rattle.plan_reader.specs.Own.{own_checks}
use Rattle.plan_reader.specs.declared.location.Location.{Location}
use Rattle.plan_reader.specs.declared.plan.Plan.{Plan}
use Rattle.plan_reader.specs.declared.plan.PlanFault.{PlanFault}
use Rattle.plan_reader.specs.declared.plan.PlanFault.TheVariants.{Refused, NoMemory}
use Rattle.plan_checker.specs.Filling.{filled}
use Rattle.plan_checker.specs.Members.{groups_of, members_of}
use Rattle.plan_checker.specs.Places.{places}
use Rattle.plan_checker.specs.Uses.{query_checks}
use Rattle.plan_checker.specs.declared.checking.Checked.{Checked}

-- the checks of a plan with fragments, in their order: those of the plan by itself come first
abbrev pub checks_of : Query → List Relation → Plan → List (Check Location)
checks_of query catalogue plan = own_checks plan ++ query_checks query catalogue plan

-- what is kept of a plan that breaks no check
abbrev pub kept_of : Query → List Relation → Plan → Checked
kept_of query catalogue plan =
    record { plan = plan; places = places query plan.fragments; groups = groups_of query catalogue; members = members_of query catalogue }

abbrev pub unless_broken : Option (Broken Location) → Checked → Result Checked PlanFault
unless_broken None checked = Ok checked
unless_broken (Some broken) checked = Err (fault_of broken)

-- what is found of a plan with fragments
abbrev pub found_of : Query → List Relation → Plan → Result Checked PlanFault
found_of query catalogue plan = unless_broken (first_broken is_up_to (checks_of query catalogue plan)) (kept_of query catalogue plan)

-- what is kept of the plan, or the first check that it breaks, at the least location that breaks it
abbrev pub checked_of : Query → List Relation → Plan → Result Checked PlanFault
checked_of query catalogue plan = found_of query catalogue (filled (length query.atoms) plan)

-- no check is broken
abbrev pub IsAccepted : Query → List Relation → Plan → Type 0
IsAccepted query catalogue plan = first_broken is_up_to (checks_of query catalogue (filled (length query.atoms) plan)) ≡ None

-- the answer is what is found, unless memory ran out
abbrev pub AnswersChecked : Result Checked PlanFault → Result Checked PlanFault → Type 0
AnswersChecked (Ok checked) found = found ≡ Ok checked
AnswersChecked (Err (Refused why part item)) found = found ≡ Err (Refused why part item)
AnswersChecked (Err NoMemory) found = ⊤
