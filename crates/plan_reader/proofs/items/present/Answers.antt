use Rattle.std.proofs.Common.{Option}
use Rattle.plan_reader.proofs.ItemLaws.{step_found, step_none}
use Rattle.plan_reader.proofs.items.present.Goals as goal

pub loop-item-preserved-in-Continue-1 : goal.loop-item-preserved-in-Continue-1
loop-item-preserved-in-Continue-1 g c =
    step_found (λ (m : Option g.row.T.Denot). m) c.loop-item.yielded c.in-Some.item c.in-Some-item.item c.loop-item.found c.push.new.self c.in-Some-item.is c.loop-item.invariant c.in_ok-push.ensures.ok

pub loop-item-preserved : goal.loop-item-preserved
loop-item-preserved g c = step_none (λ (m : Option g.row.T.Denot). m) c.loop-item.yielded c.in-Some.item c.loop-item.found c.in_default.is c.loop-item.invariant
