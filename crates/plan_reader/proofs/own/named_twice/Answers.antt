use Rattle.std.proofs.Common.{◌≡◌, List, Bor, ℕ, map, ap, sym, ◌∙◌}
use Rattle.std.specs.Prelude.{nat_eq, nat_le, option_map}
use Rattle.med_base.specs.declared.status.Part.TheVariants as part
use Rattle.text_reading.specs.Order.{least, lesser}
use Rattle.plan_reader.specs.Items.{doubled}
use Rattle.plan_reader.specs.Locations.{is_up_to, location}
use Rattle.plan_reader.specs.Own.{own_name, rule_name}
use Rattle.plan_reader.proofs.FormLaws.{least_named}
use Rattle.plan_reader.proofs.ItemLaws.{same_seen, texts}
use Rattle.plan_reader.proofs.own.named_twice.Goals as goal

pub returns : goal.returns
returns c =
    let plan = c.args.plan.now in
    let names = c.in_ok-rules.rules in
    let f : c.in_ok-fragment.fragment ≡ least nat_le (doubled nat_eq (map own_name plan.fragments)) =
    c.in_ok-fragment.ensures ∙ ap (λ (ns : List (List ℕ)). least nat_le (doubled nat_eq ns)) (c.as_slice-3.ensures ∙ c.in_ok-fragments.ensures ∙ ap (map own_name) c.as_slice.ensures) in
    let r : c.in_ok-rule.rule ≡ least nat_le (doubled same_seen names) = c.in_ok-rule.ensures ∙ ap (λ (ns : List (List (Bor (List ℕ)))). least nat_le (doubled same_seen ns)) c.as_slice-4.ensures in
    let e : map texts names ≡ map rule_name plan.rules = c.in_ok-rules.ensures ∙ ap (map rule_name) c.as_slice-2.ensures in
    c.lesser.ensures ∙ ap (λ m. lesser is_up_to m c.located-2.result) (c.located.ensures ∙ ap (option_map (location part.Fragment)) f)
    ∙ ap (lesser is_up_to (option_map (location part.Fragment) (least nat_le (doubled nat_eq (map own_name plan.fragments))))) (c.located-2.ensures ∙ ap (option_map (location part.Rule)) r)
    ∙ sym (least_named plan names e)
