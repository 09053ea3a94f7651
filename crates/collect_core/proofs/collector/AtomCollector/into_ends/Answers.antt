use Rattle.std.proofs.Common.{subst}
use Rattle.collect_core.specs.Collecting.{IsCollector}
use Rattle.collect_core.proofs.Gathering.{members_sound}
use Rattle.collect_core.proofs.collector.AtomCollector.into_ends.Goals as goal

pub returns-clause-sound : goal.returns-clause-sound
returns-clause-sound g c =
    let is = subst (IsCollector g.S.Source) c.self.view_is c.self.invariant in members_sound g.S.Source c.args.self.columns c.args.self.members is.members

pub returns-in_err-ends_of-clause-sound : goal.returns-in_err-ends_of-clause-sound
returns-in_err-ends_of-clause-sound g c =
    let is = subst (IsCollector g.S.Source) c.self.view_is c.self.invariant in members_sound g.S.Source c.args.self.columns c.args.self.members is.members
