use Rattle.std.proofs.Common.{ap, map, ◌∙◌}
use Rattle.std.specs.List.{flat_map}
use Rattle.query_reader.specs.Mentions.{first_mentions}
use Rattle.query_reader.specs.Parts.{comparison_variables}
use Rattle.query_reader.proofs.OffsetLaws.{least_loose}
use Rattle.query_reader.proofs.checks.loose_offsets.Goals as goal

pub returns-clause-head : goal.returns-clause-head
returns-clause-head c =
    c.loose_offset-head.ensures
    ∙ least_loose c.args.pieces.now.atoms (map (λ a. a.now) c.atoms.result.now) c.in_ok-bound.bound.items c.in_ok-bound-2.bound c.head.result.now c.args.pieces.now.head
    (c.in_ok-bound-2.ensures ∙ ap first_mentions c.as_slice.ensures.value) c.in_ok-bound.ensures c.atoms.ensures c.head.ensures

pub returns-clause-compared : goal.returns-clause-compared
returns-clause-compared c =
    c.loose_offset.ensures
    ∙ least_loose c.args.pieces.now.atoms (map (λ a. a.now) c.atoms.result.now) c.in_ok-bound.bound.items c.in_ok-bound-2.bound c.as_slice-2.result.now (flat_map comparison_variables c.args.pieces.now.comparisons)
    (c.in_ok-bound-2.ensures ∙ ap first_mentions c.as_slice.ensures.value) c.in_ok-bound.ensures c.atoms.ensures
    (c.as_slice-2.ensures.value ∙ c.in_ok-compared.ensures ∙ ap (flat_map comparison_variables) c.comparisons.ensures)
