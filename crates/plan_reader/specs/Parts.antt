-- What a document says as a plan, part by part.
use Rattle.std.specs.Prelude.{ℕ, ◌^◌, ◌==◌, List, map, length, codes, if◌then◌else◌}
use Rattle.std.specs.List.{filter_map}
use Rattle.toml.specs.Data.{Members}
use Rattle.rule_reader.specs.declared.rule.Method.{Method}
use Rattle.rule_reader.specs.declared.rule.Method.TheVariants as method
use Rattle.plan_reader.specs.Entries.{entries_at, given, settled, values_at}
use Rattle.plan_reader.specs.Fragments.{fragment_read, written_fragment}
use Rattle.plan_reader.specs.Items.{present}
use Rattle.plan_reader.specs.Settings.{group_setting, join_setting, written_rule}
use Rattle.plan_reader.specs.Words.{method_of, number_of, policy_of, replan_of}
use Rattle.plan_reader.specs.declared.fragments.WrittenFragment.{WrittenFragment}
use Rattle.plan_reader.specs.declared.parts.Parts.{Parts}
use Rattle.plan_reader.specs.declared.plan.Fragment.{Fragment}
use Rattle.plan_reader.specs.declared.plan.Plan.{Plan}
use Rattle.plan_reader.specs.declared.plan.Policy.{Policy}
use Rattle.plan_reader.specs.declared.plan.Policy.TheVariants as policy
use Rattle.plan_reader.specs.declared.plan.Replan.{Replan}
use Rattle.plan_reader.specs.declared.plan.Replan.TheVariants as replan

-- what stands where nothing is given
abbrev pub default_buckets : ℕ
default_buckets = 64

abbrev pub default_memory : ℕ
default_memory = 268435456

abbrev pub default_spill_limit : ℕ
default_spill_limit = 2 ^ 40

abbrev pub default_idle_limit : ℕ
default_idle_limit = 100000

-- a plan that names fragments isn't made anew, one that names none is made by the mediator, after each fragment
abbrev pub default_replan : {A : Type 0} → List A → Replan
default_replan fragments = if length fragments == 0 then replan.Always else replan.Never

-- what the tables and entries of a document say, each where it is of its form
unfoldable pub parts_of : Members → Parts
parts_of doc = record {
  fragments = map written_fragment (values_at (codes "fragment") doc);
  joins = map join_setting (entries_at (codes "join") doc);
  groups = map group_setting (entries_at (codes "group") doc);
  rules = map written_rule (values_at (codes "rule") doc);
}

abbrev pub number_at : List ℕ → ℕ → Members → ℕ
number_at key otherwise doc = settled otherwise (given number_of key doc)

abbrev pub method_at : Members → Method
method_at doc = settled method.Left (given method_of (codes "method") doc)

abbrev pub policy_at : Members → Policy
policy_at doc = settled policy.First (given policy_of (codes "policy") doc)

abbrev pub replan_at : Replan → Members → Replan
replan_at otherwise doc = settled otherwise (given replan_of (codes "replan") doc)

-- the fragments as they are written, those of a form
abbrev pub written_of : Members → List WrittenFragment
written_of doc = present (parts_of doc).fragments

-- the plan that a document says with these fragments
unfoldable pub plan_with : Members → List Fragment → Plan
plan_with doc fragments = record {
  buckets = number_at (codes "buckets") default_buckets doc;
  memory = number_at (codes "memory") default_memory doc;
  method = method_at doc;
  spill_limit = number_at (codes "spill_limit") default_spill_limit doc;
  idle_limit = number_at (codes "idle_limit") default_idle_limit doc;
  policy = policy_at doc;
  replan = replan_at (default_replan fragments) doc;
  fragments = fragments;
  joins = present (parts_of doc).joins;
  groups = present (parts_of doc).groups;
  rules = present (parts_of doc).rules;
}

-- the plan that a document says; fragments whose texts spell no tree are left out
abbrev pub plan_in : Members → Plan
plan_in doc = plan_with doc (filter_map fragment_read (written_of doc))
