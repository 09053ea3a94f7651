-- The plan that names nothing is accepted.
use Rattle.std.proofs.Common.{◌≡◌, ℕ, zero, suc, ◌≤◌, List, [], ◌∷◌, ◌++◌, length, None, arith, refl, subst, sym}
use Rattle.answer_theory.specs.Bags.{numbers_from}
use Rattle.cat_reader.specs.declared.catalogue.Relation.{Relation}
use Rattle.query_core.specs.declared.query.Query.{Query}
use Rattle.query_reader.specs.Fitting.{FitsCatalogue}
use Rattle.med_base.specs.declared.status.Part.TheVariants as part
use Rattle.text_reading.specs.Checks.{Check, first_broken}
use Rattle.text_reading.specs.Faults.{indices_where}
use Rattle.plan_reader.specs.Limits.{is_own_over, where_past_limits}
use Rattle.plan_reader.specs.Locations.{in_part, is_up_to}
use Rattle.plan_reader.specs.Own.{own_checks, where_joined_twice, where_named_twice}
use Rattle.plan_reader.specs.Parts.{parts_of, plan_with}
use Rattle.plan_reader.specs.Words.{method_of, number_of, policy_of, replan_of}
use Rattle.plan_reader.specs.declared.location.Location.{Location}
use Rattle.plan_reader.specs.declared.plan.Plan.{Plan}
use Rattle.plan_checker.specs.Checking.{IsAccepted, checks_of}
use Rattle.plan_checker.specs.Filling.{default_plan, filled}
use Rattle.plan_checker.specs.Uses.{atoms_used, is_missing, is_unknown_group, is_unknown_join, is_used_twice, joins_used, names_unknown, nodes_in, numbers_of, where_early, where_misused, where_missing, where_unknown, where_used_twice}

-- the checks of the plan of so many atoms
abbrev checks_at : Query → List Relation → ℕ → Plan → List (Check Location)
checks_at query catalogue atoms p =
    own_checks p ++
    (record { why = 4; broken = in_part part.Fragment (indices_where (names_unknown atoms (numbers_of p.fragments)) 0 p.fragments) ++ in_part part.Join (indices_where (is_unknown_join (joins_used (nodes_in p.fragments))) 0 p.joins) ++ in_part part.Group (indices_where (is_unknown_group query catalogue) 0 p.groups) }
    ∷ record { why = 5; broken = in_part part.Atom (indices_where (is_missing (atoms_used (nodes_in p.fragments))) 0 (numbers_from 1 atoms)) }
    ∷ record { why = 6; broken = in_part part.Atom (indices_where (is_used_twice (atoms_used (nodes_in p.fragments))) 0 (numbers_from 1 atoms)) }
    ∷ record { why = 7; broken = where_misused p }
    ∷ record { why = 8; broken = where_early p }
    ∷ [])

same_checks : (query : Query) (catalogue : List Relation) (p : Plan) → checks_of query catalogue p ≡ checks_at query catalogue (length query.atoms) p
unfolding where_unknown where_missing where_used_twice
same_checks query catalogue p = refl

at : (query : Query) (catalogue : List Relation) (atoms : ℕ) → 1 ≤ atoms → atoms ≤ 8 → first_broken is_up_to (checks_at query catalogue atoms (filled atoms default_plan)) ≡ None
unfolding where_misused where_early where_named_twice where_joined_twice where_past_limits is_own_over parts_of plan_with method_of number_of policy_of replan_of
at query catalogue zero some few = absurd (omega (arith, some))
at query catalogue (suc zero) some few = refl
at query catalogue (suc (suc zero)) some few = refl
at query catalogue (suc (suc (suc zero))) some few = refl
at query catalogue (suc (suc (suc (suc zero)))) some few = refl
at query catalogue (suc (suc (suc (suc (suc zero))))) some few = refl
at query catalogue (suc (suc (suc (suc (suc (suc zero)))))) some few = refl
at query catalogue (suc (suc (suc (suc (suc (suc (suc zero))))))) some few = refl
at query catalogue (suc (suc (suc (suc (suc (suc (suc (suc zero)))))))) some few = refl
at query catalogue (suc (suc (suc (suc (suc (suc (suc (suc (suc n))))))))) some few = absurd (omega (arith, few))

pub default_accepted : (query : Query) (catalogue : List Relation) → FitsCatalogue catalogue query → IsAccepted query catalogue default_plan
default_accepted query catalogue fits =
    subst (λ (cs : List (Check Location)). first_broken is_up_to cs ≡ None) (sym (same_checks query catalogue (filled (length query.atoms) default_plan))) (at query catalogue (length query.atoms) fits.some_atom fits.few_atoms)
