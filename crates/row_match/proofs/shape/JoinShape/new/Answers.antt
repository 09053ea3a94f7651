use Rattle.std.proofs.Common.{rules, ◌≡◌}
use Rattle.answer_theory.specs.Rows.{glued_variables}
use Rattle.answer_theory.proofs.Rows.{glued_distinct}
use Rattle.row_match.proofs.shape.JoinShape.new.Goals as goal

pub new-requires-clause-distinct : goal.new-requires-clause-distinct
new-requires-clause-distinct c =
    let all : c.in_ok-append.field-0.items ≡ glued_variables c.args.left.now c.args.right.now = search rules in
    rw all (glued_distinct c.args.left.now c.args.right.now c.as_slice-left.ensures.distinct c.as_slice-right.ensures.distinct)
