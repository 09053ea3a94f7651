-- The checks of a plan by itself, whoever made it: names differ, and numbers are in their ranges.
use Rattle.std.specs.Prelude.{ℕ, nat_eq, List, [], ◌∷◌, ◌++◌, map}
use Rattle.med_prelude.specs.Texts.{Bytes}
use Rattle.med_base.specs.declared.status.Part.TheVariants as part
use Rattle.text_reading.specs.Checks.{Check}
use Rattle.join_trees.specs.Shapes.{joins_of}
use Rattle.plan_reader.specs.Items.{doubled}
use Rattle.plan_reader.specs.Limits.{where_past_limits}
use Rattle.plan_reader.specs.Locations.{in_part}
use Rattle.plan_reader.specs.Words.{same_text}
use Rattle.plan_reader.specs.declared.location.Location.{Location}
use Rattle.plan_reader.specs.declared.plan.Fragment.{Fragment}
use Rattle.plan_reader.specs.declared.plan.Plan.{Plan}
use Rattle.plan_reader.specs.declared.plan.WrittenRule.{WrittenRule}

abbrev pub own_name : Fragment → List ℕ
own_name f = f.number ∷ []

abbrev pub own_joins : Fragment → List ℕ
own_joins f = joins_of f.tree

abbrev pub rule_name : WrittenRule → List Bytes
rule_name r = r.name ∷ []

-- a fragment or a rule has the name of an earlier one
unfoldable pub where_named_twice : Plan → List Location
where_named_twice p =
    in_part part.Fragment (doubled nat_eq (map own_name p.fragments)) ++ in_part part.Rule (doubled same_text (map rule_name p.rules))

-- a join has the name of an earlier one
unfoldable pub where_joined_twice : Plan → List Location
where_joined_twice p = in_part part.Fragment (doubled nat_eq (map own_joins p.fragments))

abbrev pub own_checks : Plan → List (Check Location)
own_checks p =
    record { why = 2; broken = where_named_twice p }
    ∷ record { why = 3; broken = where_joined_twice p }
    ∷ record { why = 11; broken = where_past_limits p }
    ∷ []
