use Rattle.std.proofs.Common.{List, ap, ◌∙◌}
use Rattle.rule_reader.specs.Machine.{with_test}
use Rattle.rule_reader.specs.declared.nesting.Frame.{Frame}
use Rattle.rule_reader.specs.declared.rule.Condition.{Condition}
use Rattle.rule_reader.proofs.Pieces.{group_closed}
use Rattle.rule_reader.proofs.nesting.closed_group.Goals as goal

pub returns : goal.returns
returns c =
    group_closed c.args.tested c.pop.new.self.items c.into_vec-frames.result.items c.in-Some.here c.in_ok-ored.field-0 c.in_ok-with_test.field-0
    c.into_vec-frames.ensures c.in-Some.ensures.items c.in_ok-ored.ensures
    (c.in_ok-with_test.ensures
    ∙ ap (λ (o : List Frame). with_test (record { event = c.args.tested.event; outer = o; here = c.in-Some.here }) c.in_ok-group.group) c.from_vec.ensures
    ∙ ap (λ (g : Condition). with_test (record { event = c.args.tested.event; outer = c.pop.new.self.items; here = c.in-Some.here }) g) c.in_ok-group.ensures)
