use Rattle.std.proofs.Common.{◌≡◌, true, false, Some, map, refl, sym, ap, ◌∙◌}
use Rattle.std.specs.List.{list_all}
use Rattle.std.proofs.lemmas.List.Folds.{list_all-map}
use Rattle.toml.specs.View.{view}
use Rattle.plan_reader.specs.Fragments.{names_fragment}
use Rattle.plan_reader.proofs.fragments.fragments_named.Goals as goal

pub returns-in_ok-numbers_of : goal.returns-in_ok-numbers_of
returns-in_ok-numbers_of c =
    let all : list_all names_fragment (map view c.args.values.now) ≡ true = list_all-map names_fragment view c.args.values.now ∙ sym c.all_name_fragments.ensures ∙ c.if-all_name_fragments.true in
    rw all (ap (λ ns. Some ns) c.in_ok-numbers_of.ensures)

pub returns-else-all_name_fragments : goal.returns-else-all_name_fragments
returns-else-all_name_fragments c =
    let all : list_all names_fragment (map view c.args.values.now) ≡ false = list_all-map names_fragment view c.args.values.now ∙ sym c.all_name_fragments.ensures ∙ c.if-all_name_fragments.false in
    rw all refl
