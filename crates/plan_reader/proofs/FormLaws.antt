-- The least location over the parts of a plan, and the least item of what isn't of its form.
use Rattle.std.proofs.Common.{◌≡◌, ℕ, Bor, List, [], ◌∷◌, ◌++◌, map, Option, refl, sym, ap, ◌∙◌}
use Rattle.std.specs.Prelude.{codes, is_none, nat_eq, nat_le, option_map, position}
use Rattle.toml.specs.Data.{Members}
use Rattle.toml.specs.View.{view}
use Rattle.toml.specs.declared.value.Value.{Value}
use Rattle.med_base.specs.declared.status.Part.TheVariants as part
use Rattle.text_reading.specs.Faults.{broken_if, index_past, indices_where}
use Rattle.text_reading.specs.Order.{least, lesser}
use Rattle.text_reading.proofs.FaultLaws.{least_index}
use Rattle.plan_reader.specs.Forms.{is_own_misformed, misformed_fragments, misformed_rules, where_misformed}
use Rattle.plan_reader.specs.Entries.{entries_at, entry_seen, values_at}
use Rattle.plan_reader.specs.Fragments.{joins_written, names_of, written_fragment}
use Rattle.plan_reader.specs.Items.{doubled, missing}
use Rattle.plan_reader.specs.Limits.{fragments_over, is_own_over, is_quota_over, is_race_over, is_treeless, most_rules, treeless_fragments, where_past_limits}
use Rattle.plan_reader.specs.Locations.{in_part, is_up_to, location}
use Rattle.plan_reader.specs.Parts.{parts_of}
use Rattle.plan_reader.specs.Settings.{group_setting, join_setting, rule_names, written_rule}
use Rattle.plan_reader.specs.Own.{own_name, rule_name, where_named_twice}
use Rattle.plan_reader.specs.Words.{same_text}
use Rattle.plan_reader.specs.declared.entries.Entry.{Entry}
use Rattle.plan_reader.specs.declared.parts.Parts.{Parts}
use Rattle.plan_reader.specs.declared.fragments.WrittenFragment.{WrittenFragment}
use Rattle.plan_reader.specs.declared.location.Location.{Location}
use Rattle.plan_reader.specs.declared.plan.Plan.{Plan}
use Rattle.plan_reader.specs.declared.plan.WrittenRule.{WrittenRule}
use Rattle.plan_reader.proofs.ItemLaws.{doubled_texts, same_seen, texts}
use Rattle.plan_reader.proofs.LocationLaws.{item_append, least_in_part, location_append}

abbrev pub told : Option ℕ → Option ℕ → Option ℕ → Option ℕ → Option ℕ → Option Location
told p f j g r =
    lesser is_up_to (lesser is_up_to (lesser is_up_to (lesser is_up_to (option_map (location part.Plan) p) (option_map (location part.Fragment) f)) (option_map (location part.Join) j)) (option_map (location part.Group) g)) (option_map (location part.Rule) r)

least_parts : (p f j g r : List ℕ) → least is_up_to (in_part part.Plan p ++ in_part part.Fragment f ++ in_part part.Join j ++ in_part part.Group g ++ in_part part.Rule r)
    ≡ told (least nat_le p) (least nat_le f) (least nat_le j) (least nat_le g) (least nat_le r)
least_parts p f j g r =
    let one = in_part part.Plan p in
    let two = one ++ in_part part.Fragment f in
    let three = two ++ in_part part.Join j in
    let four = three ++ in_part part.Group g in
    rw (
      location_append four (in_part part.Rule r),
      location_append three (in_part part.Group g),
      location_append two (in_part part.Join j),
      location_append one (in_part part.Fragment f),
      least_in_part part.Plan p,
      least_in_part part.Fragment f,
      least_in_part part.Join j,
      least_in_part part.Group g,
      least_in_part part.Rule r,
    ) refl

pub least_misformed : (doc : Members) → least is_up_to (where_misformed doc)
    ≡ told (least nat_le (broken_if (is_own_misformed doc) 0)) (least nat_le (misformed_fragments (parts_of doc).fragments)) (position is_none (parts_of doc).joins) (position is_none (parts_of doc).groups)
    (least nat_le (misformed_rules (parts_of doc).rules))
unfolding where_misformed
least_misformed doc =
    least_parts (broken_if (is_own_misformed doc) 0) (misformed_fragments (parts_of doc).fragments) (missing (parts_of doc).joins) (missing (parts_of doc).groups) (misformed_rules (parts_of doc).rules)
    ∙ rw (least_index is_none (parts_of doc).joins, least_index is_none (parts_of doc).groups) refl

pub least_past : (plan : Plan) → least is_up_to (where_past_limits plan)
    ≡ told (least nat_le (broken_if (is_own_over plan) 0)) (least nat_le (fragments_over plan.fragments)) (position is_quota_over plan.joins) (position is_race_over plan.groups) (least nat_le (index_past most_rules plan.rules))
unfolding where_past_limits
least_past plan =
    least_parts (broken_if (is_own_over plan) 0) (fragments_over plan.fragments) (indices_where is_quota_over 0 plan.joins) (indices_where is_race_over 0 plan.groups) (index_past most_rules plan.rules)
    ∙ rw (least_index is_quota_over plan.joins, least_index is_race_over plan.groups) refl

pub least_fragment : (fs : List (Option WrittenFragment)) → least nat_le (misformed_fragments fs) ≡ lesser nat_le (position is_none fs) (least nat_le (doubled nat_eq (map names_of fs)))
unfolding misformed_fragments
least_fragment fs = item_append (missing fs) (doubled nat_eq (map names_of fs)) ∙ ap (λ m. lesser nat_le m (least nat_le (doubled nat_eq (map names_of fs)))) (least_index is_none fs)

pub least_rule : (rs : List (Option WrittenRule)) (names : List (List (Bor (List ℕ)))) → map texts names ≡ map rule_names rs
    → least nat_le (misformed_rules rs) ≡ lesser nat_le (position is_none rs) (least nat_le (doubled same_seen names))
unfolding misformed_rules
least_rule rs names e =
    item_append (missing rs) (doubled same_text (map rule_names rs))
    ∙ ap (λ m. lesser nat_le m (least nat_le (doubled same_text (map rule_names rs)))) (least_index is_none rs)
    ∙ ap (λ ns. lesser nat_le (position is_none rs) (least nat_le ns)) (ap (doubled same_text) (sym e) ∙ doubled_texts names)

pub least_treeless : (ws : List WrittenFragment) → least nat_le (treeless_fragments ws) ≡ lesser nat_le (position is_treeless ws) (least nat_le (doubled nat_eq (map joins_written ws)))
least_treeless ws =
    item_append (indices_where is_treeless 0 ws) (doubled nat_eq (map joins_written ws)) ∙ ap (λ m. lesser nat_le m (least nat_le (doubled nat_eq (map joins_written ws)))) (least_index is_treeless ws)

pub least_named : (p : Plan) (names : List (List (Bor (List ℕ)))) → map texts names ≡ map rule_name p.rules
    → least is_up_to (where_named_twice p) ≡ lesser is_up_to (option_map (location part.Fragment) (least nat_le (doubled nat_eq (map own_name p.fragments)))) (option_map (location part.Rule) (least nat_le (doubled same_seen names)))
unfolding where_named_twice
least_named p names e =
    let fs : List ℕ = doubled nat_eq (map own_name p.fragments) in
    location_append (in_part part.Fragment fs) (in_part part.Rule (doubled same_text (map rule_name p.rules)))
    ∙ ap (λ m. lesser is_up_to m (least is_up_to (in_part part.Rule (doubled same_text (map rule_name p.rules))))) (least_in_part part.Fragment fs)
    ∙ ap (lesser is_up_to (option_map (location part.Fragment) (least nat_le fs))) (least_in_part part.Rule (doubled same_text (map rule_name p.rules)) ∙ ap (λ ns. option_map (location part.Rule) (least nat_le ns)) (ap (doubled same_text) (sym e) ∙ doubled_texts names))

map_twice : {A B C : Type 0} (f : B → C) (h : A → B) (xs : List A) → map f (map h xs) ≡ map (λ x. f (h x)) xs
map_twice f h [] = refl
map_twice f h (x ∷ xs) = ap (λ ys. f (h x) ∷ ys) (map_twice f h xs)

pub same_parts : (doc : Members) (fs rs : List Value) (js gs : List Entry) → map view fs ≡ values_at (codes "fragment") doc → map entry_seen js ≡ entries_at (codes "join") doc → map entry_seen gs ≡ entries_at (codes "group") doc → map view rs ≡ values_at (codes "rule") doc
    → (parts : Parts) → parts.fragments ≡ map (λ v. written_fragment (view v)) fs → parts.joins ≡ map (λ e. join_setting (entry_seen e)) js → parts.groups ≡ map (λ e. group_setting (entry_seen e)) gs → parts.rules ≡ map (λ v. written_rule (view v)) rs → parts ≡ parts_of doc
unfolding parts_of
same_parts doc fs rs js gs f j g r parts a b c d =
    let one : parts.fragments ≡ map written_fragment (values_at (codes "fragment") doc) = a ∙ sym (map_twice written_fragment view fs) ∙ ap (map written_fragment) f in
    let two : parts.joins ≡ map join_setting (entries_at (codes "join") doc) = b ∙ sym (map_twice join_setting entry_seen js) ∙ ap (map join_setting) j in
    let three : parts.groups ≡ map group_setting (entries_at (codes "group") doc) = c ∙ sym (map_twice group_setting entry_seen gs) ∙ ap (map group_setting) g in
    let four : parts.rules ≡ map written_rule (values_at (codes "rule") doc) = d ∙ sym (map_twice written_rule view rs) ∙ ap (map written_rule) r in
    ap (λ x. record { fragments = x; joins = parts.joins; groups = parts.groups; rules = parts.rules }) one
    ∙ ap (λ x. record { fragments = map written_fragment (values_at (codes "fragment") doc); joins = x; groups = parts.groups; rules = parts.rules }) two
    ∙ ap (λ x. record { fragments = map written_fragment (values_at (codes "fragment") doc); joins = map join_setting (entries_at (codes "join") doc); groups = x; rules = parts.rules }) three
    ∙ ap (λ x. record { fragments = map written_fragment (values_at (codes "fragment") doc); joins = map join_setting (entries_at (codes "join") doc); groups = map group_setting (entries_at (codes "group") doc); rules = x }) four
