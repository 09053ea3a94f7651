use Rattle.std.proofs.Common.{◌++◌, [], sym, ap₂, ◌∙◌}
use Rattle.std.specs.List.{cons_option}
use Rattle.row_match.specs.Patterns.{position_of}
use Rattle.row_match.proofs.Gathering.{filter_map_more}
use Rattle.row_match.proofs.shape.positions_in.Goals as goal

pub loop-variable-preserved : goal.loop-variable-preserved
loop-variable-preserved c =
    c.in_ok-push_some.ensures
    ∙ ap₂ (λ l o. l ++ cons_option o []) c.loop-variable.invariant c.position_of.ensures
    ∙ sym (filter_map_more (position_of c.args.variables.now) c.args.wanted.now c.loop-variable.variable-index _ c.loop-variable-test.true)
