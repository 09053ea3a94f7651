use Rattle.std.proofs.Common.{subst}
use Rattle.collect_core.specs.Collecting.{IsCollector}
use Rattle.collect_core.proofs.Gathering.{members_sound}
use Rattle.collect_core.proofs.Telling.{are_told, are_within}
use Rattle.collect_core.proofs.collector.AtomCollector.stands.Goals as goal

pub returns-clause-sound : goal.returns-clause-sound
returns-clause-sound g c =
    let is = subst (IsCollector g.S.Source) c.self.view_is c.self.invariant in members_sound g.S.Source c.args.self.now.columns c.args.self.now.members is.members

pub returns-clause-told : goal.returns-clause-told
returns-clause-told g c accepted has =
    let is = subst (IsCollector g.S.Source) c.self.view_is c.self.invariant in are_told g.S.Source c.args.self.now.columns c.args.self.now.members accepted is.members has

pub returns-clause-within : goal.returns-clause-within
returns-clause-within g c accepted has =
    let is = subst (IsCollector g.S.Source) c.self.view_is c.self.invariant in are_within g.S.Source c.args.self.now.columns c.args.self.now.members accepted is.members has

pub returns-clause-width : goal.returns-clause-width
returns-clause-width g c = let is = subst (IsCollector g.S.Source) c.self.view_is c.self.invariant in is.width
