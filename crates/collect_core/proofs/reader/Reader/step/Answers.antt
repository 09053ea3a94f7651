use Rattle.std.proofs.Common.{rules, ◌≡◌}
use Rattle.med_base.specs.declared.member.MemberState.TheVariants as state
use Rattle.collect_core.specs.declared.reader.Collected.TheVariants as collected
use Rattle.collect_core.proofs.Pulling.{Took, went_pull}
use Rattle.collect_core.proofs.reader.Reader.step.Goals as goal

pub returns-in-Still-clause-reads : goal.returns-in-Still-clause-reads
returns-in-Still-clause-reads g c =
    let e = c.in-Still.ensures in
    let took : Took g.S.Source c.args.selection.now c.args.self.now c.accept.new.self collected.Still =
    record { reader = e.reader; reads = e.reads; columns = e.columns; same = e.source; falls = e.falls } in
    let active : c.accept.new.self.state ≡ state.Active = search rules in
    let went = went_pull g.S.Source c.args.selection.now c.args.self.now c.accept.new.self c.pull.new.self took active c.pull.result c.pull.ensures in
    went.reads
