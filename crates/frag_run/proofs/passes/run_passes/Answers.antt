use Rattle.std.proofs.Common.{sym, ◌∙◌}
use Rattle.step_core.specs.Members.{members_of}
use Rattle.step_core.proofs.Same.{operators_then}
use Rattle.frag_run.proofs.Running.{all_same, all_then, counts, less_left, run_none, run_on, stalled}
use Rattle.frag_run.proofs.passes.run_passes.Goals as goal

pub returns-in_default-clause-members : goal.returns-in_default-clause-members
returns-in_default-clause-members g c = all_same g.S.Source (members_of c.args.net.now.tree) (members_of c.settle.new.net.tree) c.settle.ensures.members

pub loop-rounds-init : goal.loop-rounds-init
loop-rounds-init g c = run_none g.S.Source c.args.net.now c.settle.new.net c.args.limit c.requires c.settle.ensures.stands c.settle.ensures.operators c.settle.ensures.members c.in-Ok.ensures.quiet

pub pass-requires-clause-quiet : goal.pass-requires-clause-quiet
pass-requires-clause-quiet g c = c.loop-rounds.invariant.quiet

pub pass-requires-clause-few : goal.pass-requires-clause-few
pass-requires-clause-few g c = counts c.loop-rounds.idle c.args.limit c.loop-rounds.invariant.few c.ranges.limit.fits

pub returns-in_default-pass-clause-operators : goal.returns-in_default-pass-clause-operators
returns-in_default-pass-clause-operators g c = operators_then c.args.net.now.tree c.loop-rounds.net.tree c.pass.new.net.tree c.loop-rounds.invariant.operators c.pass.ensures.operators

pub returns-in_default-pass-clause-members : goal.returns-in_default-pass-clause-members
returns-in_default-pass-clause-members g c = all_then g.S.Source (members_of c.args.net.now.tree) (members_of c.loop-rounds.net.tree) (members_of c.pass.new.net.tree) c.loop-rounds.invariant.members c.pass.ensures.members

pub returns-in-Some-starved-clause-operators : goal.returns-in-Some-starved-clause-operators
returns-in-Some-starved-clause-operators g c = operators_then c.args.net.now.tree c.loop-rounds.net.tree c.pass.new.net.tree c.loop-rounds.invariant.operators c.pass.ensures.operators

pub returns-in-Some-starved-clause-members : goal.returns-in-Some-starved-clause-members
returns-in-Some-starved-clause-members g c = all_then g.S.Source (members_of c.args.net.now.tree) (members_of c.loop-rounds.net.tree) (members_of c.pass.new.net.tree) c.loop-rounds.invariant.members c.pass.ensures.members

pub returns-then-finished-clause-operators : goal.returns-then-finished-clause-operators
returns-then-finished-clause-operators g c = operators_then c.args.net.now.tree c.loop-rounds.net.tree c.pass.new.net.tree c.loop-rounds.invariant.operators c.pass.ensures.operators

pub returns-then-finished-clause-members : goal.returns-then-finished-clause-members
returns-then-finished-clause-members g c = all_then g.S.Source (members_of c.args.net.now.tree) (members_of c.loop-rounds.net.tree) (members_of c.pass.new.net.tree) c.loop-rounds.invariant.members c.pass.ensures.members

pub returns-then-rounds-limit-clause-operators : goal.returns-then-rounds-limit-clause-operators
returns-then-rounds-limit-clause-operators g c = operators_then c.args.net.now.tree c.loop-rounds.net.tree c.pass.new.net.tree c.loop-rounds.invariant.operators c.pass.ensures.operators

pub returns-then-rounds-limit-clause-members : goal.returns-then-rounds-limit-clause-members
returns-then-rounds-limit-clause-members g c = all_then g.S.Source (members_of c.args.net.now.tree) (members_of c.loop-rounds.net.tree) (members_of c.pass.new.net.tree) c.loop-rounds.invariant.members c.pass.ensures.members

pub returns-then-rounds-limit-clause-ends : goal.returns-then-rounds-limit-clause-ends
returns-then-rounds-limit-clause-ends g c = stalled g.S.Source c.args.net.now c.loop-rounds.net c.pass.new.net c.loop-rounds.idle c.in-Some.rounds c.args.limit c.loop-rounds.invariant c.pass.ensures.stands c.in-Some.ensures.passes c.if-rounds-limit.true (sym c.finished.ensures.taken ∙ c.if-finished.false) (sym c.starved.ensures.starved ∙ c.in_default-starved.is)

pub loop-rounds-smaller : goal.loop-rounds-smaller
loop-rounds-smaller g c = less_left g.S.Source c.loop-rounds.net c.pass.new.net c.loop-rounds.idle c.in-Some.rounds c.args.limit c.loop-rounds.invariant.few c.in-Some.ensures.passes c.if-rounds-limit.false

pub loop-rounds-preserved : goal.loop-rounds-preserved
loop-rounds-preserved g c = run_on g.S.Source c.args.net.now c.loop-rounds.net c.pass.new.net c.loop-rounds.idle c.in-Some.rounds c.args.limit c.loop-rounds.invariant c.pass.ensures.stands c.pass.ensures.operators c.pass.ensures.members c.in-Some.ensures.passes c.if-rounds-limit.false
