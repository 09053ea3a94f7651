use Rattle.collect_core.proofs.Gathering.{all_listed, fresh_accepted, fresh_collector, members_sound}
use Rattle.collect_core.proofs.collector.AtomCollector.new.Goals as goal

pub invariant_of-result : goal.invariant_of-result
invariant_of-result g c =
    let is = all_listed c.loop-index.members.items c.args.atom c.loop-index.index c.args.groups.now c.loop-index-test.false c.loop-index.invariant in
    fresh_collector g.S.Source c.args.columns c.args.selection c.loop-index.members.items c.args.atom c.args.groups.now is c.requires.width c.requires.short

pub returns-clause-accepted : goal.returns-clause-accepted
returns-clause-accepted g c =
    let is = all_listed c.loop-index.members.items c.args.atom c.loop-index.index c.args.groups.now c.loop-index-test.false c.loop-index.invariant in
    fresh_accepted g.S.Source c.loop-index.members.items c.args.atom c.args.groups.now is

pub returns-clause-sound : goal.returns-clause-sound
returns-clause-sound g c =
    let is = all_listed c.loop-index.members.items c.args.atom c.loop-index.index c.args.groups.now c.loop-index-test.false c.loop-index.invariant in
    members_sound g.S.Source c.args.columns c.loop-index.members.items
    (fresh_collector g.S.Source c.args.columns c.args.selection c.loop-index.members.items c.args.atom c.args.groups.now is c.requires.width c.requires.short).members
