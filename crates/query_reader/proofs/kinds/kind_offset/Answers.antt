use Rattle.std.proofs.Common.{ap, map, ◌∙◌}
use Rattle.std.specs.Prelude.{nat_le}
use Rattle.text_reading.specs.Order.{least}
use Rattle.text_reading.specs.Faults.{each_where}
use Rattle.query_reader.specs.Kinds.{is_misfit, variable_kinds}
use Rattle.query_reader.specs.Mentions.{first_mentions}
use Rattle.query_reader.proofs.OffsetLaws.{least_kind}
use Rattle.query_reader.proofs.kinds.kind_offset.Goals as goal

pub returns : goal.returns
returns c =
    c.lesser.ensures
    ∙ least_kind c.args.directory.now (map (λ a. a.now) c.args.atoms.now) (map (λ c. c.now) c.args.comparisons.now)
    c.in_ok-terms.terms.items c.in_ok-kinds.kinds.items c.in_ok-kinds-2.kinds c.misfit_offset-misfit.result c.clash_offset.result
    c.in_ok-terms.ensures
    (c.in_ok-kinds.ensures ∙ ap variable_kinds c.as_slice.ensures.value)
    (c.in_ok-kinds-2.ensures ∙ ap first_mentions c.as_slice-2.ensures.value)
    (c.misfit_offset-misfit.ensures ∙ ap (λ terms. least nat_le (each_where (is_misfit c.in_ok-kinds-2.kinds) (λ t. t.0.at) terms)) c.as_slice-3.ensures.value)
    c.clash_offset.ensures
