-- The check of trees, and that of numbers and ranges.
use Rattle.std.specs.Prelude.{ℕ, ◌^◌, ◌==◌, ◌||◌, not, nat_eq, nat_lt, is_none, Bool, false, List, ◌++◌, map, Option, Some, None}
use Rattle.med_base.specs.declared.status.Part.TheVariants as part
use Rattle.text_reading.specs.Faults.{broken_if, index_past, indices_where}
use Rattle.plan_reader.specs.Fragments.{joins_written}
use Rattle.plan_reader.specs.Items.{doubled}
use Rattle.plan_reader.specs.Locations.{in_part}
use Rattle.plan_reader.specs.declared.fragments.WrittenFragment.{WrittenFragment}
use Rattle.plan_reader.specs.declared.location.Location.{Location}
use Rattle.plan_reader.specs.declared.plan.Fragment.{Fragment}
use Rattle.plan_reader.specs.declared.plan.GroupSetting.{GroupSetting}
use Rattle.plan_reader.specs.declared.plan.JoinSetting.{JoinSetting}
use Rattle.plan_reader.specs.declared.plan.Plan.{Plan}
use Rattle.plan_reader.specs.declared.plan.Policy.{Policy}
use Rattle.plan_reader.specs.declared.plan.Policy.TheVariants as policy
use Rattle.plan_reader.specs.declared.plan.Replan.{Replan}
use Rattle.plan_reader.specs.declared.plan.Replan.TheVariants as replan

-- the most bytes of a plan's text
abbrev pub longest_plan : ℕ
longest_plan = 1048576

abbrev pub most_fragments : ℕ
most_fragments = 8

abbrev pub most_rules : ℕ
most_rules = 64

-- the greatest number of bytes, rows or times
abbrev pub greatest_amount : ℕ
greatest_amount = 2 ^ 60

abbrev pub greatest_idle_limit : ℕ
greatest_idle_limit = 1000000000

-- its text spells no tree
abbrev pub is_treeless : WrittenFragment → Bool
is_treeless w = is_none w.tree

-- each text spells a tree, and no two joins have one name
abbrev pub treeless_fragments : List WrittenFragment → List ℕ
treeless_fragments ws = indices_where is_treeless 0 ws ++ doubled nat_eq (map joins_written ws)

unfoldable pub where_treeless : List WrittenFragment → List Location
where_treeless ws = in_part part.Fragment (treeless_fragments ws)

abbrev pub is_amount_over : ℕ → Bool
is_amount_over n = nat_lt greatest_amount n

-- the number that is given, if any, is over the greatest
abbrev pub is_given_over : Option ℕ → Bool
is_given_over None = false
is_given_over (Some n) = is_amount_over n

abbrev pub is_policy_over : Policy → Bool
is_policy_over policy.Only = false
is_policy_over policy.First = false
is_policy_over policy.All = false
is_policy_over (policy.Race n) = is_amount_over n

abbrev pub is_replan_over : Replan → Bool
is_replan_over replan.Never = false
is_replan_over replan.Always = false
is_replan_over (replan.Off k) = k == 0 || is_amount_over k

-- 16, 64 or 256
abbrev pub is_bucket_count : ℕ → Bool
is_bucket_count n = n == 16 || n == 64 || n == 256

-- 1 to 1,000,000,000
abbrev pub is_idle_over : ℕ → Bool
is_idle_over n = n == 0 || nat_lt greatest_idle_limit n

unfoldable pub is_own_over : Plan → Bool
is_own_over p =
    not (is_bucket_count p.buckets) || is_amount_over p.memory || is_amount_over p.spill_limit || is_idle_over p.idle_limit
    || is_policy_over p.policy || is_replan_over p.replan

abbrev pub is_estimate_over : Fragment → Bool
is_estimate_over f = is_given_over f.estimate

abbrev pub is_quota_over : JoinSetting → Bool
is_quota_over j = is_given_over j.quota

abbrev pub is_given_policy_over : Option Policy → Bool
is_given_policy_over None = false
is_given_policy_over (Some p) = is_policy_over p

abbrev pub is_race_over : GroupSetting → Bool
is_race_over g = is_given_policy_over g.policy

abbrev pub fragments_over : List Fragment → List ℕ
fragments_over fs = index_past most_fragments fs ++ indices_where is_estimate_over 0 fs

-- each number is in its range, and there are at most 8 fragments and 64 rules
unfoldable pub where_past_limits : Plan → List Location
where_past_limits p =
    in_part part.Plan (broken_if (is_own_over p) 0)
    ++ in_part part.Fragment (fragments_over p.fragments)
    ++ in_part part.Join (indices_where is_quota_over 0 p.joins)
    ++ in_part part.Group (indices_where is_race_over 0 p.groups)
    ++ in_part part.Rule (index_past most_rules p.rules)
