use Rattle.std.proofs.Common.{◌∙◌, sym}
use Rattle.tuple_core.specs.Encoded.{value_seen}
use Rattle.query_model.specs.Walks.{binding_of}
use Rattle.query_model.proofs.Binding.{more_at, stops_at}
use Rattle.query_model.proofs.entries.bind_row.Goals as goal

pub returns-then-not-branch-clause-agrees : goal.returns-then-not-branch-clause-agrees
returns-then-not-branch-clause-agrees c =
    sym (stops_at (binding_of c.args.entries.now.items) c.args.terms.now c.args.row (binding_of c.loop-term.entries.items) c.loop-term.term-index c.term-item.result (value_seen c.in-Some.value) c.loop-term.left c.next.new.self
    c.loop-term.invariant c.loop-term-test.true c.term-item.is c.in-Some.ensures.steps (sym c.in_ok-bind_value.ensures.agrees ∙ c.if-not-branch.true))

pub loop-term-preserved : goal.loop-term-preserved
loop-term-preserved c =
    more_at (binding_of c.args.entries.now.items) c.args.terms.now c.args.row (binding_of c.loop-term.entries.items) c.loop-term.term-index c.term-item.result (value_seen c.in-Some.value) c.loop-term.left c.next.new.self
    c.loop-term.invariant c.loop-term-test.true c.term-item.is c.in-Some.ensures.steps (binding_of c.bind_value.new.entries.items) (sym c.in_ok-bind_value.ensures.agrees ∙ c.if-not-branch.false) (c.in_ok-bind_value.ensures.bound c.if-not-branch.false)
