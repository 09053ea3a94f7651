use Rattle.std.proofs.Common.{ap, not, ◌∙◌}
use Rattle.cat_reader.proofs.FormLaws.{group_values, no_values}
use Rattle.cat_reader.proofs.groups.is_no_group.Goals as goal

pub returns-in-Some : goal.returns-in-Some
returns-in-Some c = ap not c.are_strings.ensures ∙ group_values c.args.value.now c.in-Some.values.now c.in-Some.ensures

pub returns-in-None : goal.returns-in-None
returns-in-None c = no_values c.args.value.now c.in-None.ensures
