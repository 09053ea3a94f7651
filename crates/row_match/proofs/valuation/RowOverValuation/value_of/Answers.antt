use Rattle.std.proofs.Common.{rules, ◌≡◌, slice_get, None, Some, sym, ap, ◌∙◌}
use Rattle.std.specs.Option.{option_and_then}
use Rattle.row_match.specs.Patterns.{position_of}
use Rattle.row_match.proofs.Positions.{value_at}
use Rattle.row_match.proofs.valuation.RowOverValuation.value_of.Goals as goal

pub returns-in-Some : goal.returns-in-Some
returns-in-Some c =
    let row = c.args.self.now in
    let at : position_of row.variables.now c.args.variable ≡ Some c.in-Some.position = search rules in
    c.seen_at.ensures ∙ sym (value_at c.args.variable row.variables.now row.values.now row.width ∙ ap (option_and_then (slice_get row.values.now)) at)

pub returns-in-None : goal.returns-in-None
returns-in-None c =
    let row = c.args.self.now in
    let at : position_of row.variables.now c.args.variable ≡ None = search rules in
    sym (value_at c.args.variable row.variables.now row.values.now row.width ∙ ap (option_and_then (slice_get row.values.now)) at)
