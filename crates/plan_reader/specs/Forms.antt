-- The check of forms: each entry is known, of its kind and of its form, what must be there is there, and the names of
-- fragments and of rules differ.
use Rattle.std.specs.Prelude.{ℕ, Bool, not, ◌||◌, is_none, List, [], ◌∷◌, ◌++◌, map, codes, nat_eq, Option}
use Rattle.toml.specs.Data.{Members, as_table}
use Rattle.med_prelude.specs.Texts.{Bytes}
use Rattle.med_base.specs.declared.status.Part.TheVariants as part
use Rattle.text_reading.specs.Faults.{broken_if}
use Rattle.toml_tables.specs.Tables.{has_only, values_of}
use Rattle.plan_reader.specs.Entries.{given}
use Rattle.plan_reader.specs.Fragments.{names_of}
use Rattle.plan_reader.specs.Items.{doubled, missing}
use Rattle.plan_reader.specs.Locations.{in_part}
use Rattle.plan_reader.specs.Parts.{parts_of}
use Rattle.plan_reader.specs.Settings.{rule_names}
use Rattle.plan_reader.specs.Words.{method_of, number_of, policy_of, replan_of, same_text}
use Rattle.plan_reader.specs.declared.fragments.WrittenFragment.{WrittenFragment}
use Rattle.plan_reader.specs.declared.location.Location.{Location}
use Rattle.plan_reader.specs.declared.plan.WrittenRule.{WrittenRule}

-- the keys that a plan may have
abbrev pub plan_keys : List Bytes
plan_keys =
    codes "buckets" ∷ codes "memory" ∷ codes "method" ∷ codes "spill_limit" ∷ codes "idle_limit" ∷ codes "policy" ∷ codes "replan"
    ∷ codes "fragment" ∷ codes "join" ∷ codes "group" ∷ codes "rule" ∷ []

-- something else than an integer stands at the key
abbrev pub is_no_number : Bytes → Members → Bool
is_no_number key doc = is_none (given number_of key doc)

-- one of the numbers isn't an integer
unfoldable pub has_no_number : Members → Bool
has_no_number doc =
    is_no_number (codes "buckets") doc || is_no_number (codes "memory") doc || is_no_number (codes "spill_limit") doc || is_no_number (codes "idle_limit") doc

-- one of the words isn't of its form
unfoldable pub has_no_word : Members → Bool
has_no_word doc = is_none (given method_of (codes "method") doc) || is_none (given policy_of (codes "policy") doc) || is_none (given replan_of (codes "replan") doc)

-- fragments and rules aren't lists, or joins and groups no tables
unfoldable pub has_no_list : Members → Bool
has_no_list doc =
    is_none (given values_of (codes "fragment") doc) || is_none (given values_of (codes "rule") doc) || is_none (given as_table (codes "join") doc) || is_none (given as_table (codes "group") doc)

-- a key is unknown, or the value at a key is of another kind or form
unfoldable pub is_own_misformed : Members → Bool
is_own_misformed doc = not (has_only plan_keys doc) || has_no_number doc || has_no_word doc || has_no_list doc

-- a fragment isn't of its form, or has the name of an earlier one
unfoldable pub misformed_fragments : List (Option WrittenFragment) → List ℕ
misformed_fragments fragments = missing fragments ++ doubled nat_eq (map names_of fragments)

unfoldable pub misformed_rules : List (Option WrittenRule) → List ℕ
misformed_rules rules = missing rules ++ doubled same_text (map rule_names rules)

unfoldable pub where_misformed : Members → List Location
where_misformed doc =
    in_part part.Plan (broken_if (is_own_misformed doc) 0)
    ++ in_part part.Fragment (misformed_fragments (parts_of doc).fragments)
    ++ in_part part.Join (missing (parts_of doc).joins)
    ++ in_part part.Group (missing (parts_of doc).groups)
    ++ in_part part.Rule (misformed_rules (parts_of doc).rules)
