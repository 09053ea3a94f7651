use Rattle.std.proofs.Common.{sym, ◌∙◌}
use Rattle.plan_reader.specs.Fragments.{fragment_read}
use Rattle.plan_reader.proofs.ItemLaws.{step_found, step_none}
use Rattle.plan_reader.proofs.fragments.fragments_read.Goals as goal

pub loop-written-preserved-in-Continue-1 : goal.loop-written-preserved-in-Continue-1
loop-written-preserved-in-Continue-1 c =
    step_found fragment_read c.loop-written.yielded c.in-Some.written c.in-Some-fragment_read.fragment c.loop-written.fragments c.push.new.self
    (sym c.fragment_read.ensures ∙ c.in-Some-fragment_read.is) c.loop-written.invariant c.in_ok-push.ensures.ok

pub loop-written-preserved : goal.loop-written-preserved
loop-written-preserved c = step_none fragment_read c.loop-written.yielded c.in-Some.written c.loop-written.fragments (sym c.fragment_read.ensures ∙ c.in_default.is) c.loop-written.invariant
