use Rattle.least_order.proofs.MergeSteps.{Merges}
use Rattle.least_order.proofs.size.merge.Given as goal

abbrev pub invariant-loop-index : goal.invariant-loop-index
invariant-loop-index l = Merges l.item l.initial.parts l.parts l.merged l.kept l.index
