-- What the entries of a plan's tables say of joins and groups, and what its tables say as rules.
use Rattle.std.specs.Prelude.{ℕ, List, [], ◌∷◌, codes, Option, Some, None, option_map, option_and_then, if◌then◌else◌}
use Rattle.toml.specs.Data.{Data, Members, as_table}
use Rattle.med_prelude.specs.Texts.{Bytes}
use Rattle.med_base.specs.declared.names.GroupName.{GroupName}
use Rattle.text_reading.specs.Runs.{name_in}
use Rattle.toml_tables.specs.Tables.{has_only, text_at}
use Rattle.plan_reader.specs.Entries.{Entry, given}
use Rattle.plan_reader.specs.Words.{group_in, join_number, method_of, number_of, policy_of}
use Rattle.plan_reader.specs.declared.plan.GroupSetting.{GroupSetting}
use Rattle.plan_reader.specs.declared.plan.JoinSetting.{JoinSetting}
use Rattle.plan_reader.specs.declared.plan.WrittenRule.{WrittenRule}

-- the keys that a join's table may have, and those of a group's and a rule's
abbrev pub join_keys : List Bytes
join_keys = codes "method" ∷ codes "quota" ∷ []

abbrev pub group_keys : List Bytes
group_keys = codes "policy" ∷ []

abbrev pub rule_keys : List Bytes
rule_keys = codes "name" ∷ codes "text" ∷ []

unfoldable pub join_in : ℕ → Members → Option JoinSetting
join_in j ms =
    if has_only join_keys ms
    then option_and_then (λ m. option_map (λ q. record { join = j; method = m; quota = q }) (given number_of (codes "quota") ms)) (given method_of (codes "method") ms)
    else None

-- a table under the name of a join
abbrev pub join_setting : Entry → Option JoinSetting
join_setting e = option_and_then (λ j. option_and_then (join_in j) (as_table e.1)) (join_number e.0)

unfoldable pub group_with : GroupName → Members → Option GroupSetting
group_with g ms = if has_only group_keys ms then option_map (λ p. record { group = g; policy = p }) (given policy_of (codes "policy") ms) else None

-- a table under the name of a group
abbrev pub group_setting : Entry → Option GroupSetting
group_setting e = option_and_then (λ g. option_and_then (group_with g) (as_table e.1)) (group_in e.0)

abbrev pub rule_with : Option Bytes → Option Bytes → Option WrittenRule
rule_with name text = option_and_then (λ n. option_map (λ t. record { name = n; text = t }) text) name

unfoldable pub rule_in : Members → Option WrittenRule
rule_in ms = if has_only rule_keys ms then rule_with (option_and_then name_in (text_at (codes "name") ms)) (text_at (codes "text") ms) else None

-- a table with a name and a text
abbrev pub written_rule : Data → Option WrittenRule
written_rule d = option_and_then rule_in (as_table d)

-- the name of a rule
abbrev pub rule_names : Option WrittenRule → List Bytes
rule_names None = []
rule_names (Some r) = r.name ∷ []
