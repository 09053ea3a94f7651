-- What is found of a plan: where it is Ok, its fragments are sound.
use Rattle.std.proofs.Common.{◌≡◌, ℕ, ◌==◌, Bool, false, List, [], ◌∷◌, length, Option, Some, None, Result, Ok, Err, IfOk, arith, refl, sym, ap, subst, ◌∙◌}
use Rattle.std.specs.Prelude.{if◌then◌else◌}
use Rattle.std.proofs.lemmas.Bool.Decides.{nat_tests}
use Rattle.text_reading.specs.Checks.{first_broken}
use Rattle.text_reading.specs.declared.checks.Broken.{Broken}
use Rattle.cat_reader.specs.declared.catalogue.Relation.{Relation}
use Rattle.query_core.specs.declared.query.Query.{Query}
use Rattle.plan_reader.specs.Locations.{is_up_to}
use Rattle.plan_reader.specs.declared.location.Location.{Location}
use Rattle.plan_reader.specs.declared.plan.Fragment.{Fragment}
use Rattle.plan_reader.specs.declared.plan.Plan.{Plan}
use Rattle.plan_reader.specs.declared.plan.PlanFault.{PlanFault}
use Rattle.plan_reader.specs.declared.plan.PlanFault.TheVariants.{NoMemory, Refused}
use Rattle.plan_checker.specs.Checking.{AnswersChecked, checked_of, checks_of, kept_of, unless_broken}
use Rattle.plan_checker.specs.Filling.{default_fragment, filled, with_fragments}
use Rattle.plan_checker.specs.Places.{places}
use Rattle.plan_checker.specs.declared.checking.Checked.{Checked}
use Rattle.plan_checker.proofs.CheckedLaws.{AreSound, accepted_sound}

record HasFragment (fs : List Fragment) : Type 0 where
  first : Fragment
  rest : List Fragment
  is : fs ≡ first ∷ rest

abbrev chosen : ℕ → Plan → Bool → Plan
chosen atoms plan b = if b then with_fragments plan (default_fragment atoms ∷ []) else plan

filled_some : (atoms : ℕ) (plan : Plan) → HasFragment (filled atoms plan).fragments
filled_some atoms plan = by plan.fragments refl
  where
    by : (fs : List Fragment) → plan.fragments ≡ fs → HasFragment (filled atoms plan).fragments
    by [] e = subst (λ (b : Bool). HasFragment (chosen atoms plan b).fragments) (sym (ap (λ gs. length gs == 0) e)) (record { first = default_fragment atoms; rest = []; is = refl })
    by (f ∷ fs) e =
        let some : (length (f ∷ fs) == 0) ≡ false = grind (arith, nat_tests) in
        subst (λ (b : Bool). HasFragment (chosen atoms plan b).fragments) (sym (ap (λ gs. length gs == 0) e ∙ some)) (record { first = f; rest = fs; is = e })

-- what a checked plan is
pub record IsSound (query : Query) (checked : Checked) : Type 0 where
  pub sound : AreSound (length query.atoms) checked.plan.fragments
  pub places : checked.places ≡ places query checked.plan.fragments

sound_kept : (query : Query) (catalogue : List Relation) (plan : Plan) (m : Option (Broken Location)) (checked : Checked) → first_broken is_up_to (checks_of query catalogue (filled (length query.atoms) plan)) ≡ m
    → unless_broken m (kept_of query catalogue (filled (length query.atoms) plan)) ≡ Ok checked → IsSound query checked
sound_kept query catalogue plan None checked none e =
    let full : Plan = filled (length query.atoms) plan in
    let some = filled_some (length query.atoms) plan in
    let same : kept_of query catalogue full ≡ checked = cc in
    subst (IsSound query) same (record { sound = accepted_sound query catalogue full some.first some.rest some.is none; places = refl })
sound_kept query catalogue plan (Some broken) checked none e = absurd (cc)

pub ok_sound : (query : Query) (catalogue : List Relation) (plan : Plan) (checked : Checked) → checked_of query catalogue plan ≡ Ok checked → IsSound query checked
ok_sound query catalogue plan checked e = sound_kept query catalogue plan (first_broken is_up_to (checks_of query catalogue (filled (length query.atoms) plan))) checked refl e

pub ok_then : (P : Checked → Type 0) (result found : Result Checked PlanFault) → AnswersChecked result found → ((checked : Checked) → found ≡ Ok checked → P checked) → IfOk result P
ok_then P (Ok checked) found answers h = h checked answers
ok_then P (Err (Refused why part item)) found answers h = tt
ok_then P (Err NoMemory) found answers h = tt
