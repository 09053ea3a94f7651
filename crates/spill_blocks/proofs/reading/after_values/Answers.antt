use Rattle.std.proofs.Common.{sym, ◌∙◌}
use Rattle.spill_blocks.proofs.RestLaws.{behind_all, behind_none, behind_one}
use Rattle.spill_blocks.proofs.reading.after_values.Goals as goal

pub returns-in_err-rest : goal.returns-in_err-rest
returns-in_err-rest c = rw c.from_residual.ensures (sym (c.values.invariant ∙ behind_none c.args.count c.values.counter c.values.rest.now c.values-test.true c.in_err-rest.ensures))

pub values-preserved : goal.values-preserved
values-preserved c = c.values.invariant ∙ behind_one c.args.count c.values.counter c.values.rest.now c.in_ok-rest.rest.now c.values-test.true c.in_ok-rest.ensures

pub returns : goal.returns
returns c = sym (c.values.invariant ∙ behind_all c.args.count c.values.counter c.values.rest.now c.values-test.false)
